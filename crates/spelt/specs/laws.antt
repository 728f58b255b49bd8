-- What is written is read: floats (Floats); then why that is so: digits of numbers (Digits), digits behind the point (Fractions), what a pattern is worth (Values).
pub mod Floats
pub mod Digits
pub mod Fractions
pub mod Values
