-- The arc tangent is odd, and its values at 0, 1, infinity and the smallest f64.
pub mod Odd
pub mod Corners
pub mod Powers
pub mod Quotients
pub mod Runs
pub mod Units
