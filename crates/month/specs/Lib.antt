-- The month's report, what it must say of the month's files, then the laws of it.
pub mod Month
pub mod Files
pub mod laws
