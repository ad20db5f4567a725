-- Laws of a log that is read piece by piece, for the functions of this crate; of restarts, for the crates above; and an example.
mod Stopping
mod Pieces
mod Reading
pub mod Restarts
mod Examples
