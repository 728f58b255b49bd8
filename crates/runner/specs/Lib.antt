-- The run as a whole (Run), the machine that makes it byte by byte (Machine); what a read came to (Turns), a run of reads (Reads); a whole run, with what is saved and written after them (Done);
-- what the program writes, from the bytes that were read (Program); the laws that these are one (laws).
pub mod Run
pub mod Machine
pub mod Turns
pub mod Reads
pub mod Done
pub mod Program
pub mod laws
