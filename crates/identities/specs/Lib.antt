-- What the laws of the functions speak of: an answer with its sign turned (Turned), ellipf without its reduction (Unreduced); then the laws.
pub mod Turned
pub mod Unreduced
pub mod laws
