-- How an f64 is written (Spelled) and read (Reading) as one of C's hexadecimal floats; then the laws.
pub mod Spelled
pub mod Reading
pub mod Steps
pub mod laws
