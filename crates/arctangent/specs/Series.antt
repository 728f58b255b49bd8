-- The sum of the arc tangent as an exact fraction (02, [6]), and its bound. Definitions only.
use Rattle.std.specs.Prelude.{◌≡◌, ℕ, ◌+◌, ◌-◌, ◌*◌, ◌^◌, ltb, Float, Result, Err}
use Rattle.std.specs.Float.{nan, inf, fin}
use Rattle.std.specs.Float.Ieee.{up, down}
use Rattle.laws.specs.Ladder.{when◌gives◌else◌}
use Rattle.answer.specs.declared.Answer.{Answer}
use Rattle.answer.specs.declared.Refusal.{Refusal}
use Rattle.answer.specs.declared.Refusal.TheVariants.{NotANumber}
use Rattle.answer.specs.Answer.{OneThat}
use Rattle.bounds.specs.Fractions.{Fraction, Difference, ◌over◌, ◌⊞◌}
use Rattle.bounds.specs.Close.{Close}
use Rattle.arctangent.specs.Sums.{powers}

infixl 60 ◌and◌
infixl 60 ◌without◌
-- x + y
abbrev pub ◌and◌ : Difference → Difference → Difference
x and y = record { added = x.added ⊞ y.added; taken = x.taken ⊞ y.taken }

-- x - y
abbrev pub ◌without◌ : Difference → Difference → Difference
x without y = record { added = x.added ⊞ y.taken; taken = x.taken ⊞ y.added }

-- t - t³ / 3 + t⁵ / 5 - .. + t⁴¹ / 41 at t = p / q
abbrev pub A : ℕ → ℕ → Difference
A p q = record { added = powers p q 1 4 11; taken = powers p q 3 4 10 }

-- the same at t = (a - b) / c, of either sign: each minus gives 0 where the number would be negative, and A(0) is 0
abbrev pub signed_a : ℕ → ℕ → ℕ → Difference
signed_a a b c = A (a - b) c without A (b - a) c

-- A(1/3) + A(1/7), which stands for arctan 1/2; and A(1/3) more, for π / 4
abbrev pub half : Difference
half = A 1 3 and A 1 7

abbrev pub quarter : Difference
quarter = A 1 3 and half

-- of x = p / q ≥ 0, by arctan x = arctan c + arctan((x - c) / (1 + c x)) with c = 1/2, 1, 2, and π / 2 - arctan(1 / x); |t| is at most 1/4 throughout
unfoldable pub arctangent : ℕ → ℕ → Difference
arctangent p q =
    when ltb (4 * p) q gives A p q else
    when ltb (4 * p) (3 * q) gives half and signed_a (2 * p) q (p + 2 * q) else
    when ltb (2 * p) (3 * q) gives quarter and signed_a p q (p + q) else
    when ltb p (4 * q) gives (quarter and quarter) without half and signed_a p (2 * q) (2 * p + q) else
    (quarter and quarter) without A q p

-- ---- the bound

-- |x| 2^-d below 1/4, and 2^-d from there on
unfoldable pub allowed : ℕ → ℕ → ℕ → Fraction
allowed d p q =
    when ltb (4 * p) q gives p over (q * 2 ^ d) else
    1 over 2 ^ d

-- within that of the sum, whose powers are odd: for x < 0 it is said of -x and the negated answer; of ±∞ it is ±π / 2. NaN is refusal 1
unfoldable pub ArctangentWithin : ℕ → Float → Result Answer Refusal → Type 0
ArctangentWithin d nan r = r ≡ Err NotANumber
ArctangentWithin d (inf s) r = OneThat (Close (1 over 2 ^ d) (quarter and quarter) s) r
ArctangentWithin d (fin s m e) r = OneThat (Close (allowed d (m * up e) (down e)) (arctangent (m * up e) (down e)) s) r
