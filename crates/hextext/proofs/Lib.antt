-- Rows one after the other (OneByOne), and the row count (Counting).
mod OneByOne
mod Counting
