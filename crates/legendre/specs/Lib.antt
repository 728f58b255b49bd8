-- The definitions that the contracts cite, in the files' order, and what is promised; then what is proved of them.
pub mod Mean
pub mod Domain
pub mod Ellipk
pub mod Ellipe
pub mod Ellipke
pub mod Promises
pub mod laws
