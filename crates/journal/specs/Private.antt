-- What only private functions promise. No public contract cites this file: nobody needs to believe it.
pub mod Logged
