pub mod Rules
pub mod Faults
pub mod Refusals
