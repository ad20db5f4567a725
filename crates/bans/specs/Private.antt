-- What private functions promise. No public contract cites these files: nobody needs to believe them.
pub mod Placing
pub mod Rooms
