-- Laws that the crates above cite, examples, and laws that only this crate's proofs share.
pub mod Fields
pub mod Keys
pub mod Letters
pub mod Records
pub mod Proper
pub mod Statuses
pub mod Standing
pub mod Removals
pub mod Blank
pub mod Decoded
pub mod Gathering
pub mod Examples
pub mod Witnesses
mod Tests
mod Places
mod Judging
mod Others
mod Placing
mod Ordering
