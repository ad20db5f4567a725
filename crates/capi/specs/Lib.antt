pub mod Layout
pub mod Reading
pub mod Finding
pub mod Describing
