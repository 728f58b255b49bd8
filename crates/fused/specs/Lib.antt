-- What the contract cites (Fused), what the steps promise each other (Steps), and what is proved of the definition (laws).
pub mod Fused
pub mod Steps
pub mod laws
