-- The definitions that the contracts cite, in the files' order; then what is proved of them.
pub mod Coeffs
pub mod Polyeval
pub mod Piece
pub mod laws
