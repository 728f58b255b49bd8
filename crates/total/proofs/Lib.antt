-- Arguments that several proofs share.
pub mod Carrying
pub mod Adding
pub mod FirstLimbs
pub mod Lent
pub mod TopLimbs
