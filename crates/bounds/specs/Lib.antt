-- What must be believed of a bound: exact fractions, and a float close to one. Laws of both for every function that is a sum in fixed point with one rounding at its end.
pub mod Fractions
pub mod Close
pub mod laws
