-- Laws that the crates above cite; then laws for this crate alone, and examples.
pub mod Slots
pub mod Records
pub mod Keeping
pub mod Additions
pub mod Uniting
pub mod Misplaced
pub mod Encoding
pub mod Matching
pub mod Texts
mod Places
mod Chains
mod Placing
mod Comparing
mod Listing
mod Examples
