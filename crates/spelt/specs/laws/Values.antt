-- A finite pattern comes back from its sign, digits and exponent: they are what it is worth, so they round to it. Assumes nothing.
use Rattle.std.specs.Prelude.{◌≡◌, refl, ℕ, ◌+◌, ◌*◌, ◌^◌, ◌≤◌, ◌<◌, Bool, not, cond, T, Float}
use Rattle.std.proofs.Common.{sym, ap, ◌∙◌, subst, mul_assoc, lt_of_lt_of_le, le_of_lt, arith, pow-add, pow_pos, pow_mono, shl_lt}
use Rattle.std.specs.Float.{binary64}
use Rattle.std.specs.Float.Ieee.{units, round, of_bits, to_bits}
use Rattle.std.specs.Float.Ieee.Bits.{of_bits-fits, to_bits-of_bits, nan_bits_is}
use Rattle.std.specs.Float.Ieee.Exact.{HasValue, units_val}
use Rattle.std.specs.Float.Ieee.Scale.{round_same}
use Rattle.laws.specs.laws.Exact.{round_of_value}
use Rattle.bits.specs.laws.Packing.{pattern, packed_is, no_nan}

-- p is the pattern of q * 2 ^ k smallest values, with its sign
pub record Packed (negative : Bool) (p q k : ℕ) : Type 0 where
  pub width : p < 2 ^ 64
  pub is : p ≡ pattern (cond negative (2 ^ 63) 0) q k
  pub few : q < 2 ^ 53
  pub scale : k < 2046
  pub lead : 0 < k → 2 ^ 52 ≤ q

-- a number with more binary digits behind it
scaled : (n a q k c t : ℕ) → n * 2 ^ a ≡ q → a + k + c ≡ t → n * 2 ^ t ≡ q * 2 ^ k * 2 ^ c
scaled n a q k c t e f = rw (← e, ← f) (simp (pow-add, mul_assoc))

module _ (negative : Bool) (p q k : ℕ) (P : Packed negative p q k) where
  exact : of_bits binary64 p ≡ units binary64 negative q k
  exact = ap (of_bits binary64) P.is ∙ packed_is negative _ q k refl (le_of_lt P.few) P.scale P.lead

  value : HasValue (of_bits binary64 p) negative (q * 2 ^ k) (2 ^ 1074)
  value =
      let room : 53 + k ≤ 2098 = omega (arith, P.scale) in
      subst (λ (x : Float). HasValue x negative (q * 2 ^ k) (2 ^ 1074)) (sym exact) (units_val binary64 negative q k (lt_of_lt_of_le (shl_lt 53 k P.few) (pow_mono room)))

  back : (a c : ℕ) → 0 < c → a * 2 ^ 1074 ≡ q * 2 ^ k * c → to_bits binary64 (round binary64 negative a c) ≡ p
  back a c C e =
      ap (to_bits binary64) (round_same binary64 negative a c (q * 2 ^ k) (2 ^ 1074) C (pow_pos 1074) e ∙ round_of_value binary64 (of_bits binary64 p) negative (q * 2 ^ k) (2 ^ 1074) (pow_pos 1074) (of_bits-fits binary64 p) value)
      ∙ to_bits-of_bits binary64 p P.width (subst (λ (t : Bool). T (not t)) (nan_bits_is binary64 p) (no_nan negative q k p exact))

  -- q / 2 ^ 52 has 13 hex digits behind the point; n has all but some zeros of them
  module _ (n behind zeros : ℕ) (all : behind + zeros ≡ 13) (same : n * 2 ^ (4 * zeros) ≡ q) (e : ℕ) where
    pub back_down : k + e ≡ 1022 → to_bits binary64 (round binary64 negative n (2 ^ (4 * behind + e))) ≡ p
    back_down f = back n (2 ^ (4 * behind + e)) (pow_pos (4 * behind + e)) (scaled n (4 * zeros) q k (4 * behind + e) 1074 same (omega arith))

    pub back_up : k ≡ e + 1022 → to_bits binary64 (round binary64 negative (n * 2 ^ e) (2 ^ (4 * behind))) ≡ p
    back_up f =
        back (n * 2 ^ e) (2 ^ (4 * behind)) (pow_pos (4 * behind))
        (mul_assoc n (2 ^ e) (2 ^ 1074) ∙ ap (λ (x : ℕ). n * x) (sym (pow-add 2 e 1074)) ∙ scaled n (4 * zeros) q k (4 * behind) (e + 1074) same (omega arith))
