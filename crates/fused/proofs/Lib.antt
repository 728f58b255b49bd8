-- Arguments that the functions' proofs cite.
pub mod Places
pub mod Sums
pub mod Values
