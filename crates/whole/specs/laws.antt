-- A function to whole numbers (Wholes), that `round` is one (Meaning), and the size of a magnitude.
pub mod Wholes
pub mod Meaning
pub mod Magnitude
