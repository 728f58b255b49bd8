-- Exact fractions, and differences of two. Definitions only.
use Rattle.std.specs.Prelude.{Bool, true, false, ℕ, ◌+◌, ◌*◌, ◌≤◌}

-- num / den, for a den above 0
pub record Fraction : Type 0 where
  pub num : ℕ
  pub den : ℕ

infix 62 ◌over◌
infixl 60 ◌⊞◌
infix 55 ◌⊟◌
abbrev pub ◌over◌ : ℕ → ℕ → Fraction
a over b = record { num = a; den = b }

abbrev pub ◌⊞◌ : Fraction → Fraction → Fraction
x ⊞ y = (x.num * y.den + y.num * x.den) over (x.den * y.den)

-- k * x
abbrev pub times : ℕ → Fraction → Fraction
times k x = k * x.num over x.den

abbrev pub AtMost : Fraction → Fraction → Type 0
AtMost x y = x.num * y.den ≤ y.num * x.den

-- what is added, less what is taken away: of either sign
pub record Difference : Type 0 where
  pub added : Fraction
  pub taken : Fraction

-- ± x
abbrev pub with_sign : Bool → Fraction → Difference
with_sign false x = record { added = x; taken = 0 over 1 }
with_sign true x = record { added = 0 over 1; taken = x }

-- x - y
abbrev pub ◌⊟◌ : Fraction → Difference → Difference
x ⊟ y = record { added = x ⊞ y.taken; taken = y.added }

-- x and y differ by at most e
abbrev pub Within : Fraction → Difference → Difference → Type 0
Within e x y = AtMost (x.added ⊞ y.taken) (y.added ⊞ x.taken ⊞ e) × AtMost (y.added ⊞ x.taken) (x.added ⊞ y.taken ⊞ e)
