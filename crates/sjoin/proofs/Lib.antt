-- Laws of what a line says, for the crates above, an example, and laws that only this crate's proofs share.
pub mod Modes
pub mod Faults
pub mod Judged
pub mod Joined
pub mod Answers
pub mod Places
pub mod Former
pub mod Wellformed
pub mod Sizes
pub mod Examples
mod Parameters
mod Limits
mod Listed
