-- What the definition means, and 01's corner.
pub mod Meaning
