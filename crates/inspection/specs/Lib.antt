-- What the calls on rows answer; then the laws of it.
pub mod Rows
pub mod laws
