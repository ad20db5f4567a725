pub mod Bytes
pub mod Search
pub mod Order
pub mod Decimals
pub mod Room
pub mod Pages
pub mod Private
