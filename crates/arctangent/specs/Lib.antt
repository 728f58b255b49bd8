-- What 02 asks (Series), the steps (Arctangent), then laws that make both believable.
pub mod Series
pub mod Quotient
pub mod Sums
pub mod Arctangent
pub mod laws
