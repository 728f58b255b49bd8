-- What the contracts cite, and what is proved of it (laws).
pub mod Line
pub mod Reading
pub mod laws
