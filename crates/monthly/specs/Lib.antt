-- What legmonth prints.
pub mod Monthly
