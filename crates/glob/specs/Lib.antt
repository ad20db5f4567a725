pub mod Mask
pub mod Stepping
pub mod Private
