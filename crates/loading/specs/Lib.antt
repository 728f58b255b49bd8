-- A file's bytes (Load), what is said where they are not to be had (Notes).
pub mod Load
pub mod Notes
pub mod laws
