-- Which bit patterns are finite. Assumes nothing.
use Rattle.std.specs.Prelude.{◌≡◌, refl, Bool, true, false, not, cond, ℕ, zero, suc, ◌+◌, ◌/◌, ◌%◌, ◌^◌, ◌<◌, ltb, eqb}
use Rattle.std.proofs.Common.{◌∙◌, inl, inr, mod-lt, arith, lt-ltb, le-ltb, eq-eqb, ne_eqb, lit<}
use Rattle.std.specs.Float.{nan, inf, binary64}
use Rattle.std.specs.Float.Ieee.{odd, of_fields, of_bits}
use Rattle.std.specs.Float.Ieee.Scale.{finite}
use Rattle.laws.specs.Arithmetic.{float}
use Rattle.laws.specs.laws.Flags.{lt-or-le}

odd_finite : (d : ℕ) (s : Bool) (q k l : ℕ) → finite (odd d s q k l) ≡ true
unfolding odd
odd_finite d s zero k l = refl
odd_finite d s (suc q) k l = refl

-- the exponent's field decides
fields_finite : (s : Bool) (x t : ℕ) → finite (of_fields binary64 s x t) ≡ not (eqb x 2047)
unfolding of_fields
fields_finite s zero t = odd_finite 53 s t 0 1074
fields_finite s (suc x) t = go (eqb (suc x) 2047)
  where
    none : (b : Bool) → finite (cond b (inf s) nan) ≡ false
    none true = refl
    none false = refl

    go : (b : Bool) → finite (cond b (cond (eqb t 0) (inf s) nan) (odd 53 s (2 ^ 52 + t) x 1074)) ≡ not b
    go true = none (eqb t 0)
    go false = odd_finite 53 s (2 ^ 52 + t) x 1074

field_below : (m : ℕ) → m < 2 ^ 63 → not (eqb (m / 2 ^ 52) 2047) ≡ ltb m 0x7ff0_0000_0000_0000
field_below m h = elim (lt-or-le m 0x7ff0_0000_0000_0000) [
  | inl l ↦ rw (lt-ltb m 0x7ff0_0000_0000_0000 l, ne_eqb (m / 2 ^ 52) 2047 (λ e. omega arith)) refl
  | inr g ↦ rw (le-ltb m 0x7ff0_0000_0000_0000 g, eq-eqb (m / 2 ^ 52) 2047 (omega arith)) refl
]

pub finite_pattern : (p : ℕ) → finite (float p) ≡ ltb (p % 2 ^ 63) 0x7ff0_0000_0000_0000
unfolding of_bits
finite_pattern p = fields_finite _ (p % 2 ^ 63 / 2 ^ 52) (p % 2 ^ 52) ∙ field_below (p % 2 ^ 63) (mod-lt p (lit< tt))
