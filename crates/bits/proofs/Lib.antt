-- Arguments that the functions' proofs cite.
pub mod Division
pub mod Reading
pub mod Leading
pub mod Shifted
