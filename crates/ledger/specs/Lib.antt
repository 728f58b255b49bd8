-- The leg sheet's bytes, and what the calls on them do; then the laws of it.
pub mod Bytes
pub mod Sheet
pub mod Class
pub mod Calls
pub mod laws
