-- What the contract cites (Ellipf), and what is proved of it (laws).
pub mod Ellipf
pub mod laws
