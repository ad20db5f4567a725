-- Laws that the crates above cite, and examples.
pub mod Folds
pub mod Channels
pub mod UserIds
mod Places
mod Examples
