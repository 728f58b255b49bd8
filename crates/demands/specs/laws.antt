-- The nearest root, for demand 2 (Root). Which sort each argument is (Sorts). Why demand 3 holds: numbers of a sheet, what a row says, rows in bytes, their counts and sum, the sheet of rows, the whole total, untouched bytes; lists of edits and shuffles of them are in proofs/.
pub mod Root
pub mod Sorts
pub mod Numbers
pub mod Stored
pub mod Undone
pub mod Rows
pub mod Tally
pub mod Encoded
pub mod Whole
pub mod Untouched
