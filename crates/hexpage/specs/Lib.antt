-- A sheet as hex text.
pub mod HexPage
