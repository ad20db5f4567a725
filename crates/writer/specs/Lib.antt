pub mod Form
pub mod Writing
pub mod Former
pub mod Private
