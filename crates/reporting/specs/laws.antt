-- The report is the month's of the files that were read.
pub mod Month
