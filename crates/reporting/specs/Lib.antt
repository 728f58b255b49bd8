-- What comes of a run of legmonth, then the laws of it.
pub mod Reporting
pub mod laws
