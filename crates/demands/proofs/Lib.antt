-- Why demand 3 holds: lists of edits (Runs), and the demand itself. Shuffles of such lists (Shuffled, ShuffledEdits), and the sorts of arguments.
pub mod Runs
pub mod Demand3
pub mod Shuffled
pub mod ShuffledEdits
pub mod Sorts
