-- Rows that were entered (Entered); and that a sheet written as hex text and read again is the same bytes, with why that is so (laws).
pub mod Entered
pub mod laws
