-- The sums of sine and cosine of 01, module 2, as exact fractions, and 01's bounds of them. Definitions only.
use Rattle.std.specs.Prelude.{◌≡◌, Bool, false, cond, ℕ, zero, suc, ◌+◌, ◌*◌, ◌^◌, ltb, ℤ, Float, Result, Ok, Err}
use Rattle.std.specs.Float.{nan, inf, fin}
use Rattle.std.specs.Float.Ieee.{up, down}
use Rattle.answer.specs.declared.Answer.{Answer}
use Rattle.answer.specs.declared.Refusal.{Refusal}
use Rattle.answer.specs.declared.Answer.TheVariants.{One}
use Rattle.answer.specs.declared.Refusal.TheVariants.{NotANumber, OutOfRange}
use Rattle.answer.specs.Answer.{OneThat}
use Rattle.bounds.specs.Fractions.{Fraction, Difference, ◌over◌, AtMost, with_sign, ◌⊟◌}
use Rattle.bounds.specs.Close.{Close}

unfoldable pub factorial : ℕ → ℕ
factorial zero = 1
factorial (suc n) = suc n * factorial n

-- x^n / n! at x = p / q
abbrev pub term : ℕ → ℕ → ℕ → Fraction
term p q n = p ^ n over (factorial n * q ^ n)

-- k terms of x^n / n! - x^(n + 2) / (n + 2)! + x^(n + 4) / (n + 4)! - ..
unfoldable pub taylor : ℕ → ℕ → ℕ → ℕ → Difference
taylor p q n zero = with_sign false (0 over 1)
taylor p q n (suc k) = term p q n ⊟ taylor p q (n + 2) k

-- ---- the bounds

-- 01 of sine and cosine alike: NaN is refusal 1, |x| > 4 is refusal 12, and of any other x = ± p / q the answer is as Q says
unfoldable pub UpToFour : (Bool → ℕ → ℕ → Result Answer Refusal → Type 0) → Float → Result Answer Refusal → Type 0
UpToFour Q nan r = r ≡ Err NotANumber
UpToFour Q (inf s) r = r ≡ Err OutOfRange
UpToFour Q (fin s m e) r = cond (ltb (4 * down e) (m * up e)) (r ≡ Err OutOfRange) (Q s (m * up e) (down e) r)

-- 01: within |x| 2^-d of x - x³ / 3! + .. to degree 41. Its powers are odd, so for x < 0 it is said of -x and the negated answer.
unfoldable pub SineWithin : ℕ → Float → Result Answer Refusal → Type 0
SineWithin d = UpToFour (λ (s : Bool) (p q : ℕ). OneThat (Close (p over (q * 2 ^ d)) (taylor p q 1 21) s))

-- 01: within 2^-d of 1 - x² / 2! + .. to degree 42, whose powers are even
unfoldable pub CosineWithin : ℕ → Float → Result Answer Refusal → Type 0
CosineWithin d = UpToFour (λ (s : Bool) (p q : ℕ). OneThat (Close (1 over 2 ^ d) (taylor p q 0 22) false))

-- |r| ≤ 1, where r is an answer
unfoldable pub UpToOne : Result Answer Refusal → Type 0
UpToOne r = (s : Bool) (n : ℕ) (g : ℤ) → r ≡ Ok (One (fin s n g)) → AtMost (n * up g over down g) (1 over 1)
