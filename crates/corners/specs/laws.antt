-- Corner facts: the floor's, the recipes' at the values that are printed in Carlson's paper, the functions'.
pub mod Root
pub mod Fused
pub mod Whole
pub mod Remainder
pub mod Rf
pub mod Rc
pub mod Rd
pub mod Rj
pub mod Complete
pub mod Ellippi
pub mod Ellipeinc
pub mod Ellipf
