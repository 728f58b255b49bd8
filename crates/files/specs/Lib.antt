-- The calls of the system that a program makes (Calls); what reads bring (Reads), a file put in place (Save), text sent to an output (Output), what is said of a file and of
-- the call (Notes).
pub mod Calls
pub mod Reads
pub mod Save
pub mod Output
pub mod Notes
pub mod laws
