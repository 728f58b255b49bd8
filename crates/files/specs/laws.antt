-- Texts one after the other are one text.
pub mod Outputs
