-- What the remainder is (Remainder), what its steps promise each other (Steps), then laws that say in other words what the definition means.
pub mod Remainder
pub mod Steps
pub mod laws
