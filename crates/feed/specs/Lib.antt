pub mod Lines
pub mod Feeder
pub mod Calls
pub mod Division
pub mod Useless
pub mod Private
