-- What the contract cites (Ellippi), and what is proved of it (laws).
pub mod Ellippi
pub mod laws
