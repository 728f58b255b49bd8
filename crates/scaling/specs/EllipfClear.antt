-- Where neither RF(x, y, z) nor RF of the arguments over λ loses digits to the ends of the range. Definitions only.
use Rattle.std.specs.Prelude.{T, Float}
use Rattle.std.specs.Float.{binary64}
use Rattle.std.specs.Float.Ieee.{fits}
use Rattle.laws.specs.Arithmetic.{◌⊘◌}
use Rattle.scaling.specs.Clear.{ClearQuotient}
use Rattle.scaling.specs.RfClear.{ClearRf}
use Rattle.incomplete.specs.Scaling.{λ4}

pub record ClearBoth (x y z : Float) : Type 0 where
  pub fits_x : T (fits binary64 x)
  pub fits_y : T (fits binary64 y)
  pub fits-z : T (fits binary64 z)
  pub x_over : ClearQuotient x λ4
  pub y_over : ClearQuotient y λ4
  pub z_over : ClearQuotient z λ4
  pub scaled : ClearRf (x ⊘ λ4) (y ⊘ λ4) (z ⊘ λ4)
  pub plain : ClearRf x y z
