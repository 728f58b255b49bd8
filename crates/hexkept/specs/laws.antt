-- A sheet written as hex text and read again is the same bytes (HexKept). Then: parts of a text (Parts); no spelling has a comma or a line end (Plain); a line of written numbers (Line); a row and its line (Rows); the text of a sheet (Lines);
-- reading it (Reading); the rows that edits leave (Edited).
pub mod HexKept
pub mod Parts
pub mod Plain
pub mod Line
pub mod Rows
pub mod Lines
pub mod Reading
pub mod Edited
