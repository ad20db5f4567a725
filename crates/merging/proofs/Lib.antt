-- Laws that the crates above cite, examples, and laws that only this crate's proofs share.
pub mod Rules
pub mod Proper
pub mod Plains
pub mod Merges
pub mod Answers
mod Settings
mod Masks
mod OnePass
mod Examples
mod Witnesses
