-- The alternating sum of sine and cosine in fixed point: docs/STEPS.md, "The alternating sum". Definitions only.
use Rattle.std.specs.Prelude.{ℕ, zero, suc, ◌+◌, ◌-◌, ◌*◌, ◌/◌, ◌^◌, ◌≤◌, ◌≡◌, ltb, Float, Bool, Result, Ok, Err}
use Rattle.std.specs.Float.{nan, inf, fin}
use Rattle.std.specs.Float.Ieee.{up, down}
use Rattle.std.specs.Float.Ieee.Exact.{HasValue}
use Rattle.laws.specs.Ladder.{when◌gives◌else◌}
use Rattle.answer.specs.declared.Answer.{Answer}
use Rattle.answer.specs.declared.Refusal.{Refusal}
use Rattle.answer.specs.declared.Answer.TheVariants.{One}
use Rattle.answer.specs.declared.Refusal.TheVariants.{NotANumber, OutOfRange}
use Rattle.angle.specs.declared.series.Balance.{Balance}

-- x² of x = p / q, after x was cut, in units of 2^-59
unfoldable pub square_of : ℕ → ℕ → ℕ
square_of p q = let x = p * 2 ^ 59 / q in x * x / 2 ^ 59

-- 1 - t / d (1 - t / d' (1 - ..)) with k divisors, d = (n + 1)(n + 2), d' = (n + 3)(n + 4), ..: what is added and what is taken away, apart,
-- so that each cut only loses. t is in units of 2^-59, the sum in units of 2^-60.
unfoldable pub alternating_of : ℕ → ℕ → ℕ → Balance
alternating_of t n zero = record { added = 2 ^ 60; taken = 0 }
alternating_of t n (suc k) =
    let g = t / ((n + 1) * (n + 2)) in
    let rest = alternating_of t (n + 2) k in
    record { added = 2 ^ 60 + g * rest.taken / 2 ^ 59; taken = g * rest.added / 2 ^ 59 }

-- f of x = ± p / q, where |x| ≤ 4 (01, module 2)
unfoldable pub up_to_four : (Bool → ℕ → ℕ → Float) → Float → Result Answer Refusal
up_to_four f nan = Err NotANumber
up_to_four f (inf s) = Err OutOfRange
up_to_four f (fin s m e) =
    when ltb (4 * down e) (m * up e) gives Err OutOfRange else
    Ok (One (f s (m * up e) (down e)))

-- ---- what the steps promise each other

-- the sum from degree n on: sine's, to degree 41, where n is odd, or cosine's, to 42
abbrev pub tail_of : ℕ → ℕ → Balance
tail_of t n = alternating_of t n ((42 - n) / 2)

-- r refuses x, whatever is asked of it
abbrev pub Refuses : Float → Refusal → Type 0
Refuses x r = (f : Bool → ℕ → ℕ → Float) → Err r ≡ up_to_four f x

-- x is ± digits * 2^exponent smallest values, at most 4, with this square
pub record Viewed (x : Float) (negative : Bool) (digits exponent square : ℕ) : Type 0 where
  pub value : HasValue x negative (digits * 2 ^ exponent) (2 ^ 1074)
  pub most : digits * 2 ^ exponent ≤ 4 * 2 ^ 1074
  pub room : exponent ≤ 1024
  pub square_is : square ≡ square_of (digits * 2 ^ exponent) (2 ^ 1074)
