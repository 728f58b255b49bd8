-- Laws of steps and places, of rows that differ, and of totals with a sign.
pub mod Whole
pub mod Patterns
pub mod Steps
pub mod Values
pub mod Amounts
pub mod Order
pub mod Changes
pub mod Growth
