-- What is proved of the three functions, for every f64.
pub mod Values
-- The lemmas, from the operations up: root and logarithm, the places of m, the runs of the mean.
pub mod Beneath
pub mod Logarithms
pub mod Decided
pub mod Places
pub mod Starts
pub mod Rounds
pub mod Closing
pub mod Running
