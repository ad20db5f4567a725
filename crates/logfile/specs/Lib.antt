pub mod Files
pub mod Failing
pub mod Restarts
pub mod Private
