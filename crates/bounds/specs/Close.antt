-- What it is to lie within a bound of an exact sum. Definitions only.
use Rattle.std.specs.Prelude.{Bool, ℕ, ◌+◌, ◌-◌, ◌*◌, Float}
use Rattle.std.specs.Float.{nan, inf, fin}
use Rattle.std.specs.Float.Ieee.{up, down, unlike}
use Rattle.bounds.specs.Fractions.{Fraction, Difference, ◌over◌, with_sign, Within}

-- |a - b|
abbrev pub distance_of : ℕ → ℕ → ℕ
distance_of a b = a - b + (b - a)

-- the float (its negation where s) lies within e of the sum
unfoldable pub Close : Fraction → Difference → Bool → Float → Type 0
Close e sum s nan = ⊥
Close e sum s (inf t) = ⊥
Close e sum s (fin t n g) = Within e sum (with_sign (unlike s t) (n * up g over down g))
