-- Laws of a search.
pub mod First
pub mod Class
pub mod Rejected
