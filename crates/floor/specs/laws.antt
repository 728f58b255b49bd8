-- What `trunc` and `floor` pick of a fraction (Picking), and what they and `round` mean (Meaning).
pub mod Picking
pub mod Meaning
