-- Spellings computed (Examples), and how long they are (Lengths); digits held are the number that they spell (Holding), how large that is (Sizes), and their rounding is its own (Scaled).
pub mod Examples
pub mod Lengths
pub mod Holding
pub mod Sizes
pub mod Scaled
