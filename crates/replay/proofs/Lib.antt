-- Laws of replaying, for the functions of this crate and for the crates above, and examples.
pub mod Records
mod Cuts
pub mod Steps
pub mod Pieces
pub mod Days
pub mod Stops
pub mod Sound
mod Examples
mod Failures
mod Witnesses
