-- The argument, in order. The Taylor sum is a nested one (`Taylor`), the cut nested sum falls short of it by few units (`Sums`), and sin² + cos² ≤ 1 + 2^-60 (`Polynomials`, `Pythagoras`) keeps both within ±1 (`Angles`);
-- one rounding closes it (`Near`). From the code to the definitions: `Places`, `Steps`, `Reaching`.
pub mod Taylor
pub mod Sums
pub mod Polynomials
pub mod Pythagoras
pub mod Angles
pub mod Near
pub mod Places
pub mod Steps
pub mod Reaching
