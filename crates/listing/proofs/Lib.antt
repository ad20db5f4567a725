-- Laws of the table as text, for this crate and those above, and examples.
pub mod Lines
mod Examples
