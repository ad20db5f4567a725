-- Laws of the writer, for its functions and for the crates above.
pub mod Parts
pub mod Words
pub mod Rounds
pub mod Shorter
pub mod Answers
pub mod Former
mod Trips
mod Fitting
mod Rules
mod Lengths
mod Examples
