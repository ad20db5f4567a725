-- Laws of taking a line, for the functions of this crate and for the crates above, and examples.
mod Words
mod Told
mod Users
mod Judgements
mod Lawful
mod AsRead
mod Entering
mod Asking
mod Leaving
pub mod Results
mod Sjoin
mod Part
mod Quit
mod Bmask
mod Commands
pub mod Taking
mod Acted
pub mod Answering
mod Deciding
pub mod Joined
pub mod IllFormed
pub mod Places
pub mod Former
pub mod Fifteenth
mod Examples
mod Clashing
