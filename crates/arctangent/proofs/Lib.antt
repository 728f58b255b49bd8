-- The argument, in order. The cut sums fall short of the exact ones by few units: A(t) in `Factor`, and with its constant in `Sides`; one rounding closes it (`Near`). From the code to the definitions: `Same`, `Reaching`.
pub mod Factor
pub mod Sides
pub mod Near
pub mod Same
pub mod Reaching
