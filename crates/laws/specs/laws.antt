-- Laws of whole numbers, tests, lists and IEEE 754 arithmetic that the kit lacks.
pub mod Flags
pub mod Compare
pub mod Digits
pub mod Kinds
pub mod Rounding
pub mod Exact
pub mod Sum
-- what each operation on f64 is as a fraction that is rounded once, and what bounds it keeps
pub mod Operations
pub mod Sizes
pub mod Units
pub mod Bounds
pub mod Splices
