-- What a report holds (Month), that its total never wraps (Whole), another order of the files (Orders), the rows alone (RowsAlone); then why that is so.
pub mod Month
pub mod Whole
pub mod Orders
pub mod RowsAlone
pub mod Taken
pub mod Legs
pub mod Lists
pub mod Fields
pub mod Tally
pub mod Sums
pub mod Order
pub mod Extremes
