-- Laws of lines split, requests read and answers put together, for the functions of this crate, and examples.
mod Splitting
mod Asking
mod Keeping
mod Questioned
mod Pointing
mod Answering
mod Grouping
mod Restoring
mod Examples
mod Typing
