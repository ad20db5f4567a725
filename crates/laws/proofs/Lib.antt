-- Laws that every crate may cite.
pub mod Bools
pub mod Lists
pub mod Bounded
pub mod Elements
pub mod Joins
pub mod Bitwise
pub mod Mapped
pub mod Replaced
pub mod Texts
pub mod Chains
