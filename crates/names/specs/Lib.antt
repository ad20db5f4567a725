pub mod Fold
pub mod Names
pub mod Private
