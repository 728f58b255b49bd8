-- What 01 asks (Series), the steps (Logarithm), then laws that make both believable.
pub mod Series
pub mod Logarithm
pub mod laws
