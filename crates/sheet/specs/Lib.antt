-- The functions by their numbers, and edits: what the contracts cite, then the laws of it.
pub mod Functions
pub mod Edit
pub mod laws
