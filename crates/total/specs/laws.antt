-- Laws of the total: limbs and numbers, values and units.
pub mod Limbs
pub mod Units
