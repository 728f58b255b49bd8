-- Laws of what legdiff prints.
pub mod Lines
