-- Laws of numbers that take many limbs (Hex), that a value is a whole number of units (Units), and of pieces of text (Pieces).
pub mod Hex
pub mod Pieces
pub mod Units
