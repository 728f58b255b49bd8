-- Arguments that several proofs share.
pub mod Pieces
