-- Laws of the sheet's bytes and calls.
pub mod Classes
pub mod Fields
pub mod Refusals
pub mod Rows
pub mod Weights
