-- What is proved of the pieces, for every f64.
pub mod Ten
pub mod Polynomials
