-- What the contract cites; then what is proved of it.
pub mod Rf
pub mod Arguments
pub mod laws
