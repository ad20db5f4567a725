-- What private functions ask and promise. No public contract cites this: nobody needs to believe it.
pub mod Sides
pub mod Uniting
pub mod Answers
