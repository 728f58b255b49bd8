-- Two limbs where there is room, patterns and values one to one, what `parts` says, the pattern of a value's digits and place, digits in other units, sums of powers, and the one rounding: what is kept of a number, and that it is enough.
pub mod Wide
pub mod Patterns
pub mod Found
pub mod Packing
pub mod Runs
pub mod Units
pub mod Keeping
pub mod Once
