pub mod Settings
pub mod Merging
pub mod Plain
pub mod Private
