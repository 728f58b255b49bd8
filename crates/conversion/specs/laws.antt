-- Laws of the way forth and back.
pub mod Rows
pub mod Accepted
