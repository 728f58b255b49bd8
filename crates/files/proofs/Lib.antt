pub mod NewName
pub mod Utf8
