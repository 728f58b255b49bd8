-- The sum of the logarithm of 01, module 2, as an exact fraction, and 01's bound of it. Definitions only.
use Rattle.std.specs.Prelude.{◌≡◌, false, cond, ◌||◌, ℕ, zero, suc, ◌+◌, ◌-◌, ◌*◌, ◌/◌, ◌^◌, ltb, eqb, Float, Result, Err}
use Rattle.std.specs.Float.{nan, inf, fin}
use Rattle.std.specs.Float.Ieee.{up, down, size}
use Rattle.answer.specs.declared.Answer.{Answer}
use Rattle.answer.specs.declared.Refusal.{Refusal}
use Rattle.answer.specs.declared.Refusal.TheVariants.{NotANumber, OutOfRange}
use Rattle.answer.specs.Answer.{OneThat}
use Rattle.bounds.specs.Fractions.{Fraction, Difference, ◌over◌, ◌⊞◌, times}
use Rattle.bounds.specs.Close.{distance_of, Close}

-- k terms of t^n / n + t^(n + 2) / (n + 2) + .. at t = p / q
unfoldable pub odds : ℕ → ℕ → ℕ → ℕ → Fraction
odds p q n zero = 0 over 1
odds p q n (suc k) = (p ^ n over (n * q ^ n)) ⊞ odds p q (n + 2) k

-- 2 (t + t³ / 3 + .. + t⁴¹ / 41)
abbrev pub S : ℕ → ℕ → Fraction
S p q = times 2 (odds p q 1 21)

-- ---- x = 2^k f with 3/4 ≤ f < 3/2 (laws/Places shows that this is so, and of no other k)

-- x > 0 in units of 2^-1074, of which an f64 is a whole number
unfoldable pub units_of : Float → ℕ
units_of nan = 0
units_of (inf s) = 0
units_of (fin s m e) = m * up e * 2 ^ 1074 / down e

-- the w with 3/4 ≤ N / 2^w < 3/2: for x of N units k is w - 1074, and f is N / 2^w
unfoldable pub places : ℕ → ℕ
places N = let l = size N - 1 in cond (ltb (2 * N) (3 * 2 ^ l)) l (l + 1)

-- k S(1/3) + S((f - 1) / (f + 1)); each minus below gives 0 where the number would be negative, and S(0) is 0
unfoldable pub logarithmic : ℕ → Difference
logarithmic N =
    let w = places N in
    record {
      added = times (w - 1074) (S 1 3) ⊞ S (N - 2 ^ w) (N + 2 ^ w);
      taken = times (1074 - w) (S 1 3) ⊞ S (2 ^ w - N) (N + 2 ^ w);
    }

-- ---- the bound

-- 01: within (|k| + 1) 2^-d of k S(1/3) + S((f - 1) / (f + 1)); zero, negative and infinite x are refusal 12
unfoldable pub LogarithmWithin : ℕ → Float → Result Answer Refusal → Type 0
LogarithmWithin d nan r = r ≡ Err NotANumber
LogarithmWithin d (inf s) r = r ≡ Err OutOfRange
LogarithmWithin d (fin s m e) r =
    let N = units_of (fin s m e) in
    let w = places N in
    cond (s || eqb m 0) (r ≡ Err OutOfRange) (OneThat (Close ((distance_of w 1074 + 1) over 2 ^ d) (logarithmic N) false) r)
