-- The argument, in order. The cut sum falls short of the exact one by few units (`Odds`), and one rounding closes it (`Near`). From the code to the definitions: `Loops`, `Factoring`.
pub mod Odds
pub mod Near
pub mod Loops
pub mod Factoring
