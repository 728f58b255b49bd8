-- What the contracts cite, then the laws of it.
pub mod Exact
pub mod laws
