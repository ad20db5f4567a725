pub mod Modes
pub mod Entries
pub mod Faults
pub mod Join
pub mod Places
pub mod Former
pub mod Private
