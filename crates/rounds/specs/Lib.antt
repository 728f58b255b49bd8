-- What the contracts cite.
pub mod Rounds
