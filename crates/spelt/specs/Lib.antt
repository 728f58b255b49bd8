-- What is written is read, numbers and floats (02, [10]): laws alone.
pub mod laws
