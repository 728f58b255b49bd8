-- The total: what the contracts cite, then the laws of it.
pub mod Total
pub mod Carry
pub mod laws
