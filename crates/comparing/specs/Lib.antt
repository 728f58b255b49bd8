-- What comes of a run of legdiff.
pub mod Comparing
