-- What is entered is what is printed (Entered); then why that is so: what is written is read. Lines read by computing (Lines).
pub mod Entered
pub mod Written
pub mod Lines
