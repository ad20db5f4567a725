pub mod Lines
pub mod Requests
pub mod Showing
pub mod Answers
pub mod Buffers
pub mod Groups
pub mod Daylog
pub mod Typing
