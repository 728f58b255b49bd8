-- Rounds down a list of tests (Asked); each function's, then every function's, by its number.
pub mod Asked
pub mod Ellippi
pub mod Ellipeinc
pub mod Ellipf
pub mod Functions
