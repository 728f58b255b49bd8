-- Digits and exponent of an f64 in units of 2^-f, by shifts. Assumes nothing.
use Rattle.std.specs.Prelude.{◌≡◌, ℕ, ◌+◌, ◌-◌, ◌*◌, ◌/◌, ◌%◌, ◌^◌, ◌<◌, ◌≤◌}
use Rattle.std.proofs.Math.Path.{sym, ap}
use Rattle.std.proofs.Common.{◌∙◌, mul_assoc, mul_comm, mul_left_comm, mul-div_cancel, lt_of_lt_of_le, arith, pow-add, pow_pos, pow_mono, shl_exact}
use Rattle.std.proofs.Math.Nat.{div-eq_of_lt}
use Rattle.std.specs.Float.Ieee.Nearest.{div_same}

-- ---- digits * 2^exponent smallest f64, 2^-1074 each, in units of 2^-f, cut
module _ (f unit : ℕ) (whole : unit + f ≡ 1074) (digits exponent : ℕ) (h : digits < 2 ^ 53) where
  parts : 2 ^ unit * 2 ^ f ≡ 2 ^ 1074
  parts = sym (pow-add 2 unit f) ∙ ap (λ (x : ℕ). 2 ^ x) whole

  pub moved_up : unit ≤ exponent → 53 + (exponent - unit) ≤ 64 → digits * 2 ^ (exponent - unit) % 2 ^ 64 ≡ digits * 2 ^ exponent * 2 ^ f / 2 ^ 1074
  moved_up l k =
      let j = exponent - unit in
      shl_exact 53 j 64 h k
      ∙ sym (mul-div_cancel (digits * 2 ^ j) (pow_pos 1074))
      ∙ ap (λ (x : ℕ). x / 2 ^ 1074) (ap (λ (x : ℕ). digits * 2 ^ j * x) (sym parts) ∙ regroup digits (2 ^ j) (2 ^ unit) (2 ^ f) ∙ ap (λ (x : ℕ). digits * x * 2 ^ f) (sym (pow-add 2 j unit) ∙ ap (λ (x : ℕ). 2 ^ x) (back exponent unit l)))
    where
      back : (e u : ℕ) → u ≤ e → e - u + u ≡ e
      back e u h = omega arith

      regroup : (d a b c : ℕ) → d * a * (b * c) ≡ d * (a * b) * c
      regroup d a b c = simp mul_assoc

  pub moved_down : exponent < unit → digits / 2 ^ (unit - exponent) ≡ digits * 2 ^ exponent * 2 ^ f / 2 ^ 1074
  moved_down l =
      let j = unit - exponent in
      div_same digits (2 ^ j) (digits * 2 ^ exponent * 2 ^ f) (2 ^ 1074) (pow_pos j) (pow_pos 1074)
      (ap (λ (x : ℕ). digits * x) (sym parts ∙ ap (λ (x : ℕ). x * 2 ^ f) (ap (λ (x : ℕ). 2 ^ x) (back exponent unit l) ∙ pow-add 2 exponent j)) ∙ regroup digits (2 ^ exponent) (2 ^ j) (2 ^ f))
    where
      back : (e u : ℕ) → e < u → u ≡ e + (u - e)
      back e u h = omega arith

      regroup : (d a b c : ℕ) → d * (a * b * c) ≡ d * a * c * b
      regroup d a b c = simp (mul_assoc, mul_comm, mul_left_comm)

  -- 64 places or more below the unit
  pub moved_out : exponent + 64 ≤ unit → 0 ≡ digits * 2 ^ exponent * 2 ^ f / 2 ^ 1074
  moved_out l = sym (div-eq_of_lt (lt_of_lt_of_le h (pow_mono {i = 53} {j = unit - exponent} (omega arith)))) ∙ moved_down (omega arith)
