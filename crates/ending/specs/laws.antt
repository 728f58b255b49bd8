-- Which of the two texts it is (Texts); the sheet's part of the memory (Parts).
pub mod Texts
pub mod Parts
