-- The shifts.
mod Fractions
