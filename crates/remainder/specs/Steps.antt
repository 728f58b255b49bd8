-- What the steps of the remainder promise each other. Definitions only.
use Rattle.std.specs.Prelude.{◌*◌, Bool, true, false, nat_lt, Float}
use Rattle.std.specs.Float.{nan, inf, fin}
use Rattle.std.specs.Float.Ieee.{up, down}

-- |x| < |y|, of numbers
unfoldable pub within : Float → Float → Bool
within nan y = false
within (inf s) y = false
within (fin s m e) nan = false
within (fin s m e) (inf t) = true
within (fin s m e) (fin t n d) = nat_lt (m * up e * down d) (n * up d * down e)
