-- Laws of what is told, for the crates above, and those that only this crate's proofs share, with examples.
pub mod Described
pub mod Lengths
pub mod Writable
mod Lines
mod Examples
