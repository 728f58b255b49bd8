-- The sign, which answers there can be, how many rounds, identities that hold bit for bit, how large the angles are, and single points.
pub mod Signum
pub mod Values
