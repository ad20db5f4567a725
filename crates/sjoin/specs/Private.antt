-- What only private functions ask and promise: no public contract cites it, and nobody needs to believe it.
pub mod Scanning
pub mod Parts
