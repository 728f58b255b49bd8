-- Laws of pieces put one after the other.
pub mod Placing
