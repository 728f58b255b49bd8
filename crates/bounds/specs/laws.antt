-- `Held` brackets fractions by multiples of a unit, `Squares` cuts a fraction and its square, `Powers` are of two degrees more, and `Rounds` is the last rounding.
pub mod Held
pub mod Squares
pub mod Powers
pub mod Rounds
