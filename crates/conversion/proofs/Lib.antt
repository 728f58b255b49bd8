-- Arguments that several proofs share.
pub mod Turning
pub mod Refused
pub mod Searching
