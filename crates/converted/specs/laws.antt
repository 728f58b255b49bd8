-- Why the two ways are right, of any sheet (Sheets), and what a row's words say (Words).
pub mod Sheets
pub mod Words
