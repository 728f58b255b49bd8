-- Which answers there can be, how many rounds, and 01's corners.
pub mod Values
