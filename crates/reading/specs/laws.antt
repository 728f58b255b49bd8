-- A part of zeros is zeros.
pub mod Zeros
