-- From old sheets and back: definitions, then the laws of them.
pub mod Conversion
pub mod laws
