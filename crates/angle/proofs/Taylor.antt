-- The Taylor sum is its first term times a nested sum: x^n / n! (1 - t / d (1 - t / d' (..))) with t = x². Assumes nothing.
use mathlib.Core.Path.{◌≡◌, sym, ap, ap₂, ◌∙◌}
use Prim.Native.Nat.{ℕ, zero, suc, ◌+◌, ◌*◌, ◌^◌, ◌<◌}
use native.Mathlib.Nat.{mul-add, add-mul, mul_assoc, mul_comm, mul_left_comm, mul-pos, zero-lt-suc}
use native.Mathlib.Numerals.{add-one, add-two}
use native.Mathlib.Omega.{arith}
use Rattle.bounds.specs.laws.Held.{Is}
use Rattle.bounds.specs.laws.Powers.{pow-two_more}
use Rattle.angle.specs.Series.{factorial, taylor}

ruleset sorted = (mul-add, add-mul, mul_assoc, mul_comm, mul_left_comm)

-- the divisor between the terms of degree n and n + 2
abbrev pub two : ℕ → ℕ
two n = (n + 1) * (n + 2)

-- 1 - a / (b d) (1 - a / (b d') (..)) exactly: what is added and what is taken away, as numerators over one denominator
unfoldable pub whole : ℕ → ℕ → ℕ → ℕ
whole b n zero = 1
whole b n (suc k) = two n * b * whole b (n + 2) k

pub record Exact : Type 0 where
  pub added : ℕ
  pub taken : ℕ

unfoldable pub exact : ℕ → ℕ → ℕ → ℕ → Exact
exact a b n zero = record { added = 1; taken = 0 }
exact a b n (suc k) = record { added = whole b n (suc k) + a * (exact a b (n + 2) k).taken; taken = a * (exact a b (n + 2) k).added }

pub whole_pos : (b n k : ℕ) → 0 < b → 0 < whole b n k
unfolding whole
whole_pos b n zero h = zero-lt-suc 0
whole_pos b n (suc k) h = mul-pos (mul-pos (mul-pos (up n 0) (up n 1)) h) (whole_pos b (n + 2) k h)
  where
    up : (n i : ℕ) → 0 < n + (i + 1)
    up n i = omega arith

factorial-two_more : (n : ℕ) → factorial (n + 2) ≡ factorial n * two n
unfolding factorial
factorial-two_more n = ap factorial (add-two n) ∙ close n (factorial n)
  where
    close : (n f : ℕ) → suc (suc n) * (suc n * f) ≡ f * two n
    close n f = simp (add-one, add-two, mul_assoc, mul_comm, mul_left_comm)

-- the denominator of the term of degree n
abbrev pub weight : ℕ → ℕ → ℕ
weight q n = factorial n * q ^ n

weight-two_more : (q n : ℕ) → weight q (n + 2) ≡ weight q n * (two n * (q * q))
weight-two_more q n = ap₂ (λ (x y : ℕ). x * y) (factorial-two_more n) (pow-two_more q n) ∙ regroup (factorial n) (two n) (q ^ n) (q * q)
  where
    regroup : (f d x y : ℕ) → f * d * (x * y) ≡ f * x * (d * y)
    regroup f d x y = simp (mul_assoc, mul_comm, mul_left_comm)

module _ (pn w d a b N D sn sd w' pn' : ℕ) (e : w' ≡ w * (d * b)) (f : pn' ≡ pn * a) (h : sn * (w' * D) ≡ pn' * N * sd) where
  known : sn * (w * (d * b) * D) ≡ pn * a * N * sd
  known = ap (λ (z : ℕ). sn * (z * D)) (sym e) ∙ h ∙ ap (λ (z : ℕ). z * N * sd) f

  step_added : (pn * sd + sn * w) * (w * (d * b * D)) ≡ pn * (d * b * D + a * N) * (w * sd)
  step_added = simp sorted (omega (arith, simp sorted at (ap (λ (z : ℕ). w * z) known)))

  step-taken : sn * (w * (d * b * D)) ≡ pn * (a * N) * sd
  step-taken = simp sorted (omega (arith, simp sorted at known))

-- with 1 + k terms
pub nested : (p q n k : ℕ)
    → Is (taylor p q n (suc k)).added (p ^ n * (exact (p * p) (q * q) n k).added) (weight q n * whole (q * q) n k)
    × Is (taylor p q n (suc k)).taken (p ^ n * (exact (p * p) (q * q) n k).taken) (weight q n * whole (q * q) n k)
unfolding taylor exact whole
nested p q n zero = (first (p ^ n) (weight q n), second (p ^ n) (weight q n))
  where
    first : (x w : ℕ) → (x * 1 + 0 * w) * (w * 1) ≡ x * 1 * (w * 1)
    first x w = omega arith

    second : (x w : ℕ) → 0 * (w * 1) ≡ x * 0 * 1
    second x w = omega arith
nested p q n (suc k) =
    let rest = taylor p q (n + 2) (suc k) in
    let N = exact (p * p) (q * q) (n + 2) k in
    let D = whole (q * q) (n + 2) k in
    let w = weight-two_more q n in
    let x = pow-two_more p n in
    let h = nested p q (n + 2) k in (
      step_added (p ^ n) (weight q n) (two n) (p * p) (q * q) N.taken D rest.taken.num rest.taken.den (weight q (n + 2)) (p ^ (n + 2)) w x h.1,
      step-taken (p ^ n) (weight q n) (two n) (p * p) (q * q) N.added D rest.added.num rest.added.den (weight q (n + 2)) (p ^ (n + 2)) w x h.0,
    )
