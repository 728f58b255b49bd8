-- What legdiff prints, then the laws of it.
pub mod Differing
pub mod laws
