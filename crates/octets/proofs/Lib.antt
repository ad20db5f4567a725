-- Laws that the crates above cite, and examples.
pub mod Bytes
pub mod Search
pub mod Ordered
pub mod Digits
pub mod Room
pub mod Pages
pub mod Clean
pub mod Fewer
mod Examples
