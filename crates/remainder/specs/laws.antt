-- Laws about the definitions.
pub mod Remainder
