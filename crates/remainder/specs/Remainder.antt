-- The remainder (C's fmod, Rust's %; IEEE 754's exact remainder, with the quotient cut toward zero): what is left of |x| when |y| is taken away as often as it fits, with x's sign. Definitions only.
use Rattle.std.specs.Prelude.{ℕ, zero, suc, ◌*◌, ◌/◌, ◌%◌, ◌^◌, ℤ, Float}
use Rattle.std.specs.Float.{nan, inf, fin, binary64}
use Rattle.std.specs.Float.Ieee.{up, down, round}

-- m * 2 ^ e counted in the smallest f64, 2 ^ -1074: every finite f64 is a whole number of them
unfoldable pub units_of : ℕ → ℤ → ℕ
units_of m e = m * up e * 2 ^ 1074 / down e

-- A zero result has x's sign too. `round` writes the whole number of units as an f64, and changes nothing of it (`remainder_exact` of laws).
unfoldable pub remainder_of : Float → Float → Float
unfolding units_of round
remainder_of nan y = nan
remainder_of (inf s) y = nan
remainder_of (fin s m e) nan = nan
remainder_of (fin s m e) (inf t) = fin s m e
remainder_of (fin s m e) (fin t zero d) = nan
remainder_of (fin s m e) (fin t (suc n) d) = round binary64 s (units_of m e % units_of (suc n) d) (2 ^ 1074)
