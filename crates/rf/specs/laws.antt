-- What is proved of the definition.
pub mod Counts
pub mod Together
pub mod Moves
