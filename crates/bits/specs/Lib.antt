-- What the contracts cite (Wide, Parts, Rounded, Runs), what the steps of the rounding promise each other (Steps), and what is proved of them (laws).
pub mod Wide
pub mod Parts
pub mod Rounded
pub mod Runs
pub mod Steps
pub mod laws
