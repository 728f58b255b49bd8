-- A row's words, read back from its bytes (Words); a count that is cut (Capped).
pub mod Words
pub mod Capped
