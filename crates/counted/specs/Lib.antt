-- How many rounds each function's recipes make in all (02, [3]): laws alone.
pub mod laws
