-- Laws of masks, and the claim about a match's steps, which the crates above may cite; what is behind that claim, for the functions of this crate; and
-- examples.
pub mod Masks
mod Looks
mod Sound
mod Stepwise
pub mod Claim
mod Examples
