-- What the contracts cite (Floor), and what is proved of the definitions (laws).
pub mod Floor
pub mod laws
