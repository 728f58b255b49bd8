pub mod Spelling
pub mod Fitting
pub mod Parts
pub mod Edits
