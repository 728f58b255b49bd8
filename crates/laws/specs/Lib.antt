-- The notation in which later definitions read as arithmetic, as lists of tests, as text and as writes into a list; then laws that the kit lacks.
pub mod Arithmetic
pub mod Ladder
pub mod Ascii
pub mod Splice
pub mod laws
