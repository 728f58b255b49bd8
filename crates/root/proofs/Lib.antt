-- Arguments that the functions' proofs cite.
pub mod Trials
pub mod Values
