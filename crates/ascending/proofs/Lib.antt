-- Laws that the crates above cite.
pub mod Ascends
pub mod Contents
pub mod Firsts
pub mod Weights
