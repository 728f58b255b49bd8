-- Magnitude, and rounding to a whole number with halves away from zero (01, module 1; Rust's `abs`, `round`). Definitions only.
-- A finite value is a fraction a / c in size: a = m * up e, c = down e. The whole number has the value's own sign, so a zero keeps it.
use Rattle.std.specs.Prelude.{ℕ, ◌+◌, ◌*◌, ◌/◌, false, Float}
use Rattle.std.specs.Float.{nan, inf, fin, binary64}
use Rattle.std.specs.Float.Ieee.{up, down, round}

unfoldable pub magnitude_of : Float → Float
magnitude_of nan = nan
magnitude_of (inf s) = inf false
magnitude_of (fin s m e) = fin false m e

-- the whole number nearest to a / c, a half going up
unfoldable pub half_up : ℕ → ℕ → ℕ
half_up a c = (2 * a + c) / (2 * c)

unfoldable pub round_of : Float → Float
unfolding half_up
round_of nan = nan
round_of (inf s) = inf s
round_of (fin s m e) = round binary64 s (half_up (m * up e) (down e)) 1
