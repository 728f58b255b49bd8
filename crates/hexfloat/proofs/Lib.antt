pub mod Parts
pub mod Holding
pub mod Patterns
pub mod Exponents
pub mod Mantissas
pub mod Written
