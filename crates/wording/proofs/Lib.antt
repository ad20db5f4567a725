-- Laws of the words, and a check that the table is whole.
pub mod Fitting
mod Whole
