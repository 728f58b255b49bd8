-- The factors and the addend moved up: what `Lifted` and the facts of a `Place` say of them. Assumes nothing.
use mathlib.Core.Path.{◌≡◌, sym, ap, ◌∙◌, subst}
use mathlib.Core.Logic.{◌⊎◌, inl, inr}
use Prim.Native.Nat.{ℕ, suc, ◌+◌, ◌-◌, ◌*◌, ◌/◌, ◌%◌, ◌^◌, ◌≤◌, ◌<◌}
use native.Mathlib.Nat.{le_of_eq, lt_of_lt_of_le, lt_of_le_of_lt, lt_irrefl, eq-zero-or-pos, zero-mul, mul-zero, mul_assoc, mul_left_comm, mul-pos, mul-le-mul, mul-mod_left, mod-eq_of_lt}
use native.Mathlib.Omega.{arith}
use lib.Count.{count_leading_zeros, leading_of_zero}
use lib.Dec.{lit≤}
use lib.Pow.{pow-add, pow_pos}
use Rattle.laws.specs.laws.Digits.{leading, moved, zeros-ge, zeros-lt, mul-lt-pow}
use Rattle.fused.specs.Steps.{Lifted}

-- ---- a float's digits
-- 10 zeros at least stay below them
pub shift_bound : (n : ℕ) → n < 2 ^ 53 → (11 ≤ count_leading_zeros 64 n) × (count_leading_zeros 64 n ≤ 64)
shift_bound n h = go (eq-zero-or-pos n)
  where
    f : n < 2 ^ 64
    f = lt_of_lt_of_le h (lit≤ tt)

    go : (n ≡ 0) ⊎ (0 < n) → (11 ≤ count_leading_zeros 64 n) × (count_leading_zeros 64 n ≤ 64)
    go (inl e) = let z : count_leading_zeros 64 n ≡ 64 = ap (count_leading_zeros 64) e ∙ leading_of_zero 64 in (omega arith, omega arith)
    go (inr p) = let z = zeros-ge n 53 p f h in let y = zeros-lt n p f in (omega arith, omega arith)

moved_same : (n e b : ℕ) → b ≤ 63 → n * 2 ^ e * 2 ^ 63 ≡ n * 2 ^ b * 2 ^ (e + 63 - b)
moved_same n e b h =
    mul_assoc n (2 ^ e) (2 ^ 63)
    ∙ ap (λ (x : ℕ). n * x) (sym (pow-add 2 e 63) ∙ ap (λ (x : ℕ). 2 ^ x) (let z : e + 63 ≡ b + (e + 63 - b) = omega arith in z) ∙ pow-add 2 b (e + 63 - b))
    ∙ sym (mul_assoc n (2 ^ b) (2 ^ (e + 63 - b)))

pub is_lifted : (n e : ℕ) → n < 2 ^ 53 → (b : ℕ) → b ≡ count_leading_zeros 64 n - 1 → Lifted n e (n * 2 ^ b % 2 ^ 64) (e + 63 - b)
is_lifted n e h b q =
    let z = shift_bound n h in
    let l : b ≤ 63 = omega (arith, z.1) in
    subst (λ (y : ℕ). Lifted n e y (e + 63 - b)) (sym (mod-eq_of_lt (lt_of_lt_of_le (below (eq-zero-or-pos n)) (lit≤ tt))))
    (record { same = moved_same n e b l; most = below (eq-zero-or-pos n); round = zeros; lead = λ p. above p; scale = (omega arith) })
  where
    f : n < 2 ^ 64
    f = lt_of_lt_of_le h (lit≤ tt)

    places : (p : 0 < n) → (2 ^ 63 ≤ n * 2 ^ b * 2) × (n * 2 ^ b + 2 ^ b ≤ 2 ^ 63)
    places p = let w = leading n p f in let y = w.1.zeros in let z = shift_bound n h in moved n w.0 b 63 w.1 (let x : b + suc w.0 ≡ 63 = omega (arith, z.0) in x)

    below : (n ≡ 0) ⊎ (0 < n) → n * 2 ^ b < 2 ^ 63
    below (inl x) = lt_of_le_of_lt (le_of_eq (ap (λ (y : ℕ). y * 2 ^ b) x ∙ zero-mul (2 ^ b))) (pow_pos 63)
    below (inr p) = let m = (places p).1 in let v = pow_pos b in omega arith

    above : 0 < n → 2 ^ 62 ≤ n * 2 ^ b
    above p = let m = (places p).0 in omega arith

    zeros : n * 2 ^ b % 2 ^ 10 ≡ 0
    zeros =
        let z = shift_bound n h in
        ap (λ (x : ℕ). x % 2 ^ 10) (ap (λ (x : ℕ). n * x) (ap (λ (x : ℕ). 2 ^ x) (let y : b ≡ b - 10 + 10 = omega (arith, z.0) in y) ∙ pow-add 2 (b - 10) 10) ∙ sym (mul_assoc n (2 ^ (b - 10)) (2 ^ 10)))
        ∙ mul-mod_left (n * 2 ^ (b - 10)) (2 ^ 10)

-- 0 stays 0
nothing : (n e d k : ℕ) → Lifted n e d k → n ≡ 0 → d ≡ 0
nothing n e d k w z = go (eq-zero-or-pos d)
  where
    none : d * 2 ^ k ≡ 0
    none = sym w.same ∙ ap (λ (x : ℕ). x * 2 ^ e * 2 ^ 63) z ∙ ap (λ (x : ℕ). x * 2 ^ 63) (zero-mul (2 ^ e)) ∙ zero-mul (2 ^ 63)

    go : (d ≡ 0) ⊎ (0 < d) → d ≡ 0
    go (inl x) = x
    go (inr p) = absurd (lt_irrefl 0 (lt_of_lt_of_le (mul-pos p (pow_pos k)) (le_of_eq none)))

-- ---- the product
module _ (sx ex a ea sy ey b eb : ℕ) (x : Lifted sx ex a ea) (y : Lifted sy ey b eb) where
  both : 0 < sx → 0 < sy → 2 ^ 124 ≤ a * b
  both u v = mul-le-mul (x.lead u) (y.lead v)

  pub product_same : a * b * 2 ^ (ea + eb + 66) ≡ sx * sy * 2 ^ (ex + ey + 192)
  product_same =
      ap (λ (z : ℕ). a * b * z) (pow-add 2 (ea + eb) 66 ∙ ap (λ (z : ℕ). z * 2 ^ 66) (pow-add 2 ea eb))
      ∙ turn a b (2 ^ ea) (2 ^ eb) (2 ^ 66)
      ∙ (λ i. sym x.same i * sym y.same i * 2 ^ 66)
      ∙ back sx sy (2 ^ ex) (2 ^ ey) (2 ^ 63) (2 ^ 66)
      ∙ ap (λ (z : ℕ). sx * sy * z) (ap (λ (z : ℕ). 2 ^ ex * 2 ^ ey * z) (ap (λ (z : ℕ). z * 2 ^ 66) (sym (pow-add 2 63 63)) ∙ sym (pow-add 2 126 66)) ∙ ap (λ (z : ℕ). z * 2 ^ 192) (sym (pow-add 2 ex ey)) ∙ sym (pow-add 2 (ex + ey) 192))
    where
      turn : (a b A B C : ℕ) → a * b * (A * B * C) ≡ a * A * (b * B) * C
      turn a b A B C = simp (mul_assoc, mul_left_comm)

      back : (s t X Y P Q : ℕ) → s * X * P * (t * Y * P) * Q ≡ s * t * (X * Y * (P * P * Q))
      back s t X Y P Q = simp (mul_assoc, mul_left_comm)

  pub product_most : a * b < 2 ^ 127
  product_most = lt_of_lt_of_le (mul-lt-pow 63 63 x.most y.most) (lit≤ tt)

  pub product_lead : (a * b ≡ 0 → ⊥) → 2 ^ 124 ≤ a * b
  product_lead h = both (some sx nothing_x) (some sy nothing_y)
    where
      some : (n : ℕ) → (n ≡ 0 → ⊥) → 0 < n
      some n g = omega arith

      nothing_x : sx ≡ 0 → ⊥
      nothing_x e = h (ap (λ (z : ℕ). z * b) (nothing sx ex a ea x e) ∙ zero-mul b)

      nothing_y : sy ≡ 0 → ⊥
      nothing_y e = h (ap (λ (z : ℕ). a * z) (nothing sy ey b eb y e) ∙ mul-zero a)

  pub product_zeros : a * b % 2 ^ 20 ≡ 0
  product_zeros =
      ap (λ (z : ℕ). z % 2 ^ 20) ((λ i. whole a x.round i * whole b y.round i) ∙ pairs (a / 2 ^ 10) (b / 2 ^ 10) (2 ^ 10))
      ∙ mul-mod_left (a / 2 ^ 10 * (b / 2 ^ 10)) (2 ^ 20)
    where
      whole : (n : ℕ) → n % 2 ^ 10 ≡ 0 → n ≡ n / 2 ^ 10 * 2 ^ 10
      whole n e = omega arith

      pairs : (u v P : ℕ) → u * P * (v * P) ≡ u * v * (P * P)
      pairs u v P = simp (mul_assoc, mul_left_comm)

-- ---- the addend: its digits c, and 64 zeros
module _ (n e d k c : ℕ) (w : Lifted n e d k) (q : c ≡ d) where
  kept : c * 2 ^ 64 % 2 ^ 128 ≡ d * 2 ^ 64
  kept = ap (λ (x : ℕ). x * 2 ^ 64 % 2 ^ 128) q ∙ mod-eq_of_lt (let z = w.most in let y : d * 2 ^ 64 < 2 ^ 128 = omega arith in y)

  pub addend_same : c * 2 ^ 64 % 2 ^ 128 * 2 ^ (k + 1139) ≡ n * 2 ^ (e + 1266)
  addend_same =
      ap (λ (z : ℕ). z * 2 ^ (k + 1139)) kept
      ∙ ap (λ (z : ℕ). d * 2 ^ 64 * z) (pow-add 2 k 1139)
      ∙ turn d (2 ^ 64) (2 ^ k) (2 ^ 1139)
      ∙ ap (λ (z : ℕ). z * (2 ^ 64 * 2 ^ 1139)) (sym w.same)
      ∙ mul_assoc (n * 2 ^ e) (2 ^ 63) (2 ^ 64 * 2 ^ 1139)
      ∙ ap (λ (z : ℕ). n * 2 ^ e * z) (ap (λ (z : ℕ). 2 ^ 63 * z) (sym (pow-add 2 64 1139)) ∙ sym (pow-add 2 63 1203))
      ∙ mul_assoc n (2 ^ e) (2 ^ 1266)
      ∙ ap (λ (z : ℕ). n * z) (sym (pow-add 2 e 1266))
    where
      turn : (d A K B : ℕ) → d * A * (K * B) ≡ d * K * (A * B)
      turn d A K B = simp (mul_assoc, mul_left_comm)
