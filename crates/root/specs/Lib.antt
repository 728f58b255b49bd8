-- What the contract cites (Root), what the steps promise each other (Steps), and what is proved of the definition (laws).
pub mod Root
pub mod Steps
pub mod laws
