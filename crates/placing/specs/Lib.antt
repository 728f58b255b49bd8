-- Text of at most so many bytes in a buffer (Placed), and how such pieces follow each other (laws).
pub mod Placed
pub mod laws
