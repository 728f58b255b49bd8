-- Hex text read into a sheet (HexText), and what is proved of its steps (laws).
pub mod HexText
pub mod laws
