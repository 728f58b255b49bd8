-- Long lines are malformed whatever they say; few digits are read as they are spelt.
pub mod Long
pub mod Few
