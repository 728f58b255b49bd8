-- Laws of room, of digits, of pieces of text, and of lines.
pub mod Room
pub mod Digits
pub mod Writing
pub mod Lines
