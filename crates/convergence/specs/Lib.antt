pub mod Demands
pub mod Ours
pub mod Useless
