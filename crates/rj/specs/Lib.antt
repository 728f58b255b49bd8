-- What the contract cites; then what is proved of it.
pub mod Rj
pub mod laws
