-- A value's magnitude is its size. Assumes nothing.
use Rattle.std.specs.Prelude.{refl, Bool, false, ℕ, Float}
use Rattle.std.specs.Float.{nan, inf, fin}
use Rattle.std.specs.Float.Ieee.Exact.{HasValue}
use Rattle.whole.specs.Whole.{magnitude_of}

pub magnitude_value : (x : Float) (s : Bool) (a c : ℕ) → HasValue x s a c → HasValue (magnitude_of x) false a c
unfolding magnitude_of
magnitude_value nan s a c h = h
magnitude_value (inf t) s a c h = h
magnitude_value (fin t m e) s a c h = (refl, h.1)
