-- The demands, and the words that they use; then laws of these words. Demand 3, shuffled edits and sorts are shown in proofs/.
pub mod Edits
pub mod Demand1
pub mod Demand2
pub mod Demand3
pub mod Shuffles
pub mod laws
