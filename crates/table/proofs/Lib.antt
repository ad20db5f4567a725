-- Laws that the crates above cite; then laws for this crate alone, and examples.
pub mod First
pub mod Searching
pub mod WellFormed
pub mod Using
pub mod Changing
pub mod Alone
pub mod Questions
pub mod Registering
mod Pairs
mod Examples
