-- The theorem that the crates above cite and what leads to it; that what is told reads back; an example.
pub mod Retold
mod Entered
mod Lettered
mod Back
mod Shorter
mod Examples
