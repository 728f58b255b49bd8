-- What comes of a run of legforth or legback.
pub mod Turning
