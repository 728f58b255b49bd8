-- What the contract cites (Ellipeinc), and what is proved of it (laws).
pub mod Ellipeinc
pub mod laws
