-- What comes of a run of legwrite.
pub mod Writing
