pub mod Journal
pub mod Reading
pub mod Pieces
pub mod Division
pub mod Private
