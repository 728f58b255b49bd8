-- What the contract cites; then what is proved of it.
pub mod Rd
pub mod laws
