-- What several proofs share.
pub mod Read
