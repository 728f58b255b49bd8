-- Long division by eight binary digits at a time: after i turns q b + rest is a 256^i. Assumes nothing.
use Rattle.std.proofs.Common.{◌≡◌, ℕ, ◌+◌, ◌*◌, ◌/◌, ◌%◌, ◌^◌, ◌<◌, ◌≤◌, sym, ap, ◌∙◌, lt_of_lt_of_le, zero-lt-suc, div-lt_iff_lt-mul, lt_of_mul-lt-mul_right, mul-lt-mul_of_pos_right, pow-suc, div-add-mod', add-one, arith}
use native.Mathlib.Nat.{pow-le-pow_right, one-le-pow}
use lib.Arith.{digits_div}

module _ (a b : ℕ) (h : a < b) where
  pub digit_small : (r : ℕ) → r < b → r * 256 / b < 256
  digit_small r l = (div-lt_iff_lt-mul (pos r l)).1 (lt r l)
    where
      pos : (r : ℕ) → r < b → 0 < b
      pos r l = omega arith

      lt : (r : ℕ) → r < b → r * 256 < 256 * b
      lt r l = omega arith

  pub quotient_small : (q r i : ℕ) → i < 8 → q * b + r ≡ a * 256 ^ i → q < 256 ^ 7
  quotient_small q r i l e =
      lt_of_lt_of_le (lt_of_mul-lt-mul_right b (under (256 ^ i) e (mul-lt-mul_of_pos_right h (one-le-pow i 256 (zero-lt-suc 255))))) (pow-le-pow_right (zero-lt-suc 255) (seven i l))
    where
      seven : (i : ℕ) → i < 8 → i ≤ 7
      seven i h = omega arith

      under : (E : ℕ) → q * b + r ≡ a * E → a * E < b * E → q * b < E * b
      under E e l = omega arith

  pub quotient_turn : (q r i : ℕ) → q * b + r ≡ a * 256 ^ i → (q * 256 + r * 256 / b) * b + r * 256 % b ≡ a * 256 ^ (i + 1)
  quotient_turn q r i e =
      let x : r * 256 / b * b + r * 256 % b ≡ r * 256 = div-add-mod' (r * 256) b in
      let y : (q * b + r) * 256 ≡ a * 256 ^ i * 256 = ap (λ (z : ℕ). z * 256) e in
      let z : 256 ^ (i + 1) ≡ 256 ^ i * 256 = ap (λ (z : ℕ). 256 ^ z) (add-one i) ∙ pow-suc 256 i in
      go (256 ^ i) (r * 256 / b) (r * 256 % b) x y ∙ ap (λ (z : ℕ). a * z) (sym z)
    where
      go : (E d s : ℕ) → d * b + s ≡ r * 256 → (q * b + r) * 256 ≡ a * E * 256 → (q * 256 + d) * b + s ≡ a * (E * 256)
      go E d s x y = omega arith

  pub quotient_done : (q r i : ℕ) → r < b → i ≡ 8 → q * b + r ≡ a * 256 ^ i → q ≡ a * 2 ^ 64 / b
  quotient_done q r i l k e = sym (digits_div q l) ∙ ap (λ (z : ℕ). z / b) (e ∙ ap (λ (z : ℕ). a * 256 ^ z) k)
