-- Edits as they are written (Input); 01's worked example, computed (Worked); what is entered is what is printed (laws).
pub mod Input
pub mod Worked
pub mod laws
