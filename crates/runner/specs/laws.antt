-- However the input is cut, machine and run agree (Law), and reads, pages and files with them (Whole); then why that is so: what a byte does, how long what a call leaves
-- is, what the machine holds, its parts and the whole, how many lines it counts.
pub mod Law
pub mod Whole
pub mod Steps
pub mod Lengths
pub mod Holding
pub mod Parts
pub mod Lines
