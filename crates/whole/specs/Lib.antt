-- What the contracts cite (Whole), and what is proved of the definitions (laws).
pub mod Whole
pub mod laws
