-- What the contract cites; then what is proved of it.
pub mod Rc
pub mod laws
