pub mod Replay
pub mod Pieces
pub mod Day
pub mod Useless
pub mod Private
