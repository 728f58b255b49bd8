-- What comes of a run of legread (Taken), and what is proved of its steps (laws).
pub mod Taken
pub mod laws
