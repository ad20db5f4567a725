-- Laws of what a line says, for the crates above; then laws for this crate alone, and examples.
pub mod Rules
mod Listed
mod Examples
