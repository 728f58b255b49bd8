-- What the contract cites.
pub mod Clear
