-- Laws that the crates above cite, and examples.
pub mod Sets
mod Counted
mod Examples
