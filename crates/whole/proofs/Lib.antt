-- Arguments that the functions' proofs cite.
pub mod Fractions
