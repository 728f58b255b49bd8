-- Where an operation on floats keeps every digit that 53 can hold: it is finite, and above 2^-1022 in size or exactly zero. Definitions only.
use Rattle.std.specs.Prelude.{◌*◌, ◌^◌, Bool, false, not, ◌&&◌, ◌||◌, T, ltb, eqb, Float}
use Rattle.std.specs.Float.{nan, inf, fin}
use Rattle.std.specs.Float.Ieee.{up, down}
use Rattle.std.specs.Float.Ieee.Scale.{finite}
use Rattle.laws.specs.Arithmetic.{◌⊕◌, ◌⊖◌, ◌⊗◌, ◌⊘◌}

abbrev pub is_zero : Float → Bool
is_zero nan = false
is_zero (inf s) = false
is_zero (fin s m e) = eqb m 0

-- finite, and above 2^-1022 in size
abbrev pub normal : Float → Bool
normal nan = false
normal (inf s) = false
normal (fin s m e) = ltb (down e) (m * up e * 2 ^ 1022)

-- A sum or a difference loses digits by overflow alone. A product or a quotient that comes out as zero is one only where it is zero exactly.
abbrev pub ClearSum : Float → Float → Type 0
ClearSum x y = T (finite (x ⊕ y))

abbrev pub ClearDifference : Float → Float → Type 0
ClearDifference x y = T (finite (x ⊖ y))

abbrev pub ClearProduct : Float → Float → Type 0
ClearProduct x y = T (is_zero x || is_zero y || normal (x ⊗ y))

abbrev pub ClearQuotient : Float → Float → Type 0
ClearQuotient x y = T (not (is_zero y) && (is_zero x || normal (x ⊘ y)))
