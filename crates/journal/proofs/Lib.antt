-- Laws of records and logs, for the functions of this crate and for the crates above, and examples.
pub mod Records
pub mod Checks
pub mod Found
mod Answers
pub mod Told
pub mod Logs
pub mod Pieces
pub mod Division
mod Examples
