-- What the definition means, and 01's corners.
pub mod Meaning
