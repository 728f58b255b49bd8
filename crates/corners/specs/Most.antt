-- The largest finite f64, for the corners. Definitions only.
use Rattle.std.specs.Prelude.{Float}
use Rattle.laws.specs.Arithmetic.{float}

abbrev pub most : Float
most = float 0x7fef_ffff_ffff_ffff
