-- Laws of the functions: what an edit needs of every answer. Laws of edits: the row that is stored, and the call as a row put in its place.
pub mod Evaluated
pub mod Stored
pub mod Placed
