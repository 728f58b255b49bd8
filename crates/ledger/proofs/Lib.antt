-- Arguments that several proofs share.
pub mod Words
pub mod Shares
pub mod Counts
pub mod Places
pub mod Tested
pub mod Answered
pub mod Blanks
