-- What a run has come to, and the text that is printed of it (Outcome); what is written at its end (Ending); which of the two texts it is, and its sheet's part of the
-- memory (laws).
pub mod Outcome
pub mod Ending
pub mod laws
