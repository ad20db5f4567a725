-- Laws of the grammar, of the parts and of readings, for the functions of this crate and for the crates above.
pub mod Runs
pub mod Induction
pub mod Fifteenth
pub mod Relation
pub mod Places
pub mod Readings
pub mod SpanContents
pub mod Splits
pub mod Sizes
pub mod Separated
pub mod Prefixes
pub mod Sequence
pub mod Former
mod Firsts
mod Gathered
mod Examples
