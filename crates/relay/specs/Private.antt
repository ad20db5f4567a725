-- What private functions promise. No public contract cites these files: nobody needs to believe them.
pub mod Work
pub mod Sjoin
pub mod Part
pub mod Quit
pub mod Bmask
pub mod Commands
pub mod Acting
