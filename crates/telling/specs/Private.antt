-- What only private functions promise: no public contract cites it, and nobody needs to believe it.
pub mod Pieces
