-- Arguments that several proofs share.
pub mod Stops
pub mod Equality
pub mod Borrowing
pub mod Changes
pub mod Growths
