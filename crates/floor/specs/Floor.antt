-- Truncation and floor (01, module 1; Rust's `trunc`, `floor`). Definitions only.
-- A finite value is a fraction a / c in size: a = m * up e, c = down e. Each function gives a whole number with the value's own sign, so a zero keeps it.
use Rattle.std.specs.Prelude.{ℕ, ◌+◌, ◌*◌, ◌/◌, ◌%◌, cond, ltb, Float}
use Rattle.std.specs.Float.{nan, inf, fin, binary64}
use Rattle.std.specs.Float.Ieee.{up, down, round}

-- a / c, or the next whole number where it is none
unfoldable pub ceiling : ℕ → ℕ → ℕ
ceiling a c = a / c + cond (ltb 0 (a % c)) 1 0

unfoldable pub trunc_of : Float → Float
trunc_of nan = nan
trunc_of (inf s) = inf s
trunc_of (fin s m e) = round binary64 s (m * up e / down e) 1

-- a negative number's size goes up
unfoldable pub floor_of : Float → Float
unfolding ceiling
floor_of nan = nan
floor_of (inf s) = inf s
floor_of (fin s m e) = round binary64 s (cond s (ceiling (m * up e) (down e)) (m * up e / down e)) 1
