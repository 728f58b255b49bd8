-- What the contracts cite, then the laws of it.
pub mod Text
pub mod Writing
pub mod laws
