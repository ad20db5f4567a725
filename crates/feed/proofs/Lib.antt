-- The theorems of the feeder, and the laws that they and the functions of this crate rest on.
mod States
mod Calls
mod Division
mod Yielded
mod Failures
mod Witnesses
mod Runs
mod Answers
mod Rooms
mod Gathering
mod ByState
