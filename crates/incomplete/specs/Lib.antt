-- What the contracts cite (Period, Scaling), and what is proved of it (laws).
pub mod Period
pub mod Scaling
