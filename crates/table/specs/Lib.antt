pub mod Network
pub mod Table
pub mod Slots
pub mod Banned
pub mod Private
