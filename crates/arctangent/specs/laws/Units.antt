-- Numbers moved between units: digits and exponent of an f64 in units of 2^-f, by shifts (of bits), and what counts in 2^-j to the one rounding. Assumes nothing.
use Rattle.std.specs.Prelude.{◌≡◌, ℕ, ◌+◌, ◌-◌, ◌*◌, ◌^◌, ◌≤◌, Bool, false}
use Rattle.std.proofs.Math.Path.{sym, ap}
use Rattle.std.proofs.Common.{ap₂, ◌∙◌, mul_assoc, mul_comm, mul_left_comm, add-zero, mul-pos, pow-add, pow_pos}
use native.Mathlib.Omega.{arith}
use Rattle.std.specs.Float.Ieee.{binary64, round}
use Rattle.std.specs.Float.Ieee.Scale.{round_same}
pub use Rattle.bits.specs.laws.Units.{moved_up, moved_down, moved_out}
use Rattle.bits.specs.Rounded.{rounded_of}

-- ---- the one rounding counts in 2^-2340
module _ (sign : Bool) (j : ℕ) where
  pub sum_rounded : (v : ℕ) → j ≤ 2340 → rounded_of sign v false (2340 - j) ≡ round binary64 sign v (2 ^ j)
  unfolding rounded_of
  sum_rounded v h =
      let u = 2 ^ (2340 - j) in
      round_same binary64 sign ((2 * v + 0) * u) (2 ^ 2341) v (2 ^ j) (pow_pos 2341) (pow_pos j) (ap (λ (y : ℕ). y * u * 2 ^ j) (add-zero (2 * v)) ∙ regroup v u (2 ^ j) ∙ ap (λ (x : ℕ). v * x) (ap (λ (x : ℕ). x * 2) (sym (pow-add 2 (2340 - j) j) ∙ ap (λ (x : ℕ). 2 ^ x) (back j h))))
    where
      back : (j : ℕ) → j ≤ 2340 → 2340 - j + j ≡ 2340
      back j h = omega arith

      regroup : (v a b : ℕ) → 2 * v * a * b ≡ v * (a * b * 2)
      regroup v a b = simp (mul_assoc, mul_comm, mul_left_comm)

  -- of one limb
  pub limb_rounded : (v : ℕ) → j ≤ 2340 → rounded_of sign (0 * 2 ^ 64 + v) false (2340 - j) ≡ round binary64 sign v (2 ^ j)
  limb_rounded v h = ap (λ (x : ℕ). rounded_of sign x false (2340 - j)) (low v) ∙ sum_rounded v h
    where
      low : (v : ℕ) → 0 * 2 ^ 64 + v ≡ v
      low v = omega arith

  -- times digits * 2^exponent smallest f64
  pub product_rounded : (digits exponent gap w : ℕ) → j + 1074 ≤ 2340 → w ≡ digits * gap → rounded_of sign w false (exponent + (2340 - j - 1074)) ≡ round binary64 sign (digits * 2 ^ exponent * gap) (2 ^ 1074 * 2 ^ j)
  unfolding rounded_of
  product_rounded digits exponent gap w h ew =
      let u = 2340 - j - 1074 in
      round_same binary64 sign ((2 * w + 0) * 2 ^ (exponent + u)) (2 ^ 2341) (digits * 2 ^ exponent * gap) (2 ^ 1074 * 2 ^ j) (pow_pos 2341) (mul-pos (pow_pos 1074) (pow_pos j))
      (ap₂ (λ (x y : ℕ). x * y * (2 ^ 1074 * 2 ^ j)) (add-zero (2 * w) ∙ ap (λ (x : ℕ). 2 * x) ew) (pow-add 2 exponent u) ∙ regroup digits gap (2 ^ exponent) (2 ^ u) (2 ^ 1074) (2 ^ j)
      ∙ ap (λ (x : ℕ). digits * 2 ^ exponent * gap * (x * 2)) (ap (λ (x : ℕ). 2 ^ u * x) (sym (pow-add 2 1074 j)) ∙ sym (pow-add 2 u (1074 + j)) ∙ ap (λ (x : ℕ). 2 ^ x) (back j h)))
    where
      back : (j : ℕ) → j + 1074 ≤ 2340 → 2340 - j - 1074 + (1074 + j) ≡ 2340
      back j h = omega arith

      regroup : (d g e u a b : ℕ) → 2 * (d * g) * (e * u) * (a * b) ≡ d * e * g * (u * (a * b) * 2)
      regroup d g e u a b = simp (mul_assoc, mul_comm, mul_left_comm)
