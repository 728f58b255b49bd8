-- Which answers there can be, how many rounds, identities that hold bit for bit, how large the angles are, and 01's corners.
pub mod Values
