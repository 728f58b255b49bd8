-- What 01 asks (Series), the steps (Alternating, Sine, Cosine), then laws that make both believable.
pub mod Series
pub mod Alternating
pub mod Sine
pub mod Cosine
