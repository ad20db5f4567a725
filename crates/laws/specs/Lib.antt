pub mod Lists
pub mod Joins
pub mod Bits
