-- The theorems that this crate delivers, behind `pub mod`, though no crate cites them: our taking and our merging meet the demands, and none that answers
-- otherwise does. Then what shows that the demands ask for something: useless relays fail them, and joins meet their premises.
pub mod Demand1
pub mod Demand2
pub mod Demand3
pub mod Merges
pub mod Only
mod Failures
mod Banning
mod Witnesses
mod Folding
mod Lines
