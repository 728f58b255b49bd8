-- Far from both ends of the range. Definitions only.
use Rattle.std.specs.Prelude.{◌*◌, ◌^◌, Bool, false, ◌&&◌, ◌||◌, leb, eqb, Float}
use Rattle.std.specs.Float.{nan, inf, fin}
use Rattle.std.specs.Float.Ieee.{up, down}

-- a zero, or finite and from 2^-400 to 2^400 in size
abbrev pub moderate : Float → Bool
moderate nan = false
moderate (inf s) = false
moderate (fin s m e) = eqb m 0 || (leb (down e) (m * up e * 2 ^ 400) && leb (m * up e) (2 ^ 400 * down e))
