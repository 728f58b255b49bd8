-- Two sheets compared: what the contracts cite, then the laws of it.
pub mod Steps
pub mod Difference
pub mod Limbs
pub mod laws
