-- Binary places moved: what the shifts of `scaled` give. Assumes nothing.
use mathlib.Core.Path.{◌≡◌, sym, ap, ◌∙◌}
use Prim.Native.Nat.{ℕ, ◌+◌, ◌*◌, ◌/◌, ◌%◌, ◌^◌}
use native.Mathlib.Nat.{mul_assoc, mul_comm, mul_left_comm, mul-add-div_right}
use native.Mathlib.Omega.{arith}
use lib.Pow.{split, pow_pos}
use lib.Ieee.Nearest.{div_same}

-- a * b in units of 2^59: what lies above 2^59 in a, times b, and the rest of a, moved up by 5 places, times b in units of 2^64
pub parted : (a b : ℕ) → a / 2 ^ 59 * b + a * 2 ^ 5 % 2 ^ 64 * b / 2 ^ 64 ≡ a * b / 2 ^ 59
parted a b =
    let q = a / 2 ^ 59 in
    let r = a % 2 ^ 59 in
    ap (λ (x : ℕ). q * b + x) (ap (λ (x : ℕ). x * b / 2 ^ 64) (raised a) ∙ div_same (r * 2 ^ 5 * b) (2 ^ 64) (r * b) (2 ^ 59) (pow_pos 64) (pow_pos 59) (regroup r (2 ^ 5) (2 ^ 59)))
    ∙ sym (mul-add-div_right (pow_pos 59) (q * b) (r * b)) ∙ ap (λ (x : ℕ). x / 2 ^ 59) (join q r (2 ^ 59) ∙ ap (λ (x : ℕ). x * b) (split a 59))
  where
    raised : (a : ℕ) → a * 2 ^ 5 % 2 ^ 64 ≡ a % 2 ^ 59 * 2 ^ 5
    raised a = omega arith

    regroup : (r x y : ℕ) → r * x * b * y ≡ r * b * (x * y)
    regroup r x y = simp (mul_assoc, mul_comm, mul_left_comm)

    join : (q r x : ℕ) → q * b * x + r * b ≡ (q * x + r) * b
    join q r x = omega arith
