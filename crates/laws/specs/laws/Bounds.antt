-- Values at most 2 ^ j units in size, and positive ones from 2 ^ i to 2 ^ j: how the operations keep such bounds. Assumes nothing.
use Rattle.std.specs.Prelude.{◌≡◌, refl, ◌⊎◌, Bool, false, not, ℕ, suc, ◌+◌, ◌*◌, ◌^◌, ◌≤◌, ◌<◌, Float}
use Rattle.std.proofs.Common.{sym, ap, ◌∙◌, subst, inl, inr, le_trans, le_of_eq, lt_of_lt_of_le, mul-pos, mul-le-mul, mul-le-mul_left, mul-le-mul_right, mul_assoc, mul_comm, pow-suc, arith, pow-add, pow_pos, pow_mono}
use Rattle.std.specs.Float.{binary64}
use Rattle.std.specs.Float.Ieee.{round, sum, neg, unlike}
use Rattle.std.specs.Float.Ieee.Exact.{HasValue}
use Rattle.std.specs.Float.Ieee.Scale.{grid}
use Rattle.laws.specs.Arithmetic.{◌⊕◌, ◌⊖◌, ◌⊗◌, ◌⊘◌}
use Rattle.laws.specs.laws.Rounding.{round-value}
use Rattle.laws.specs.laws.Operations.{mul_is, div_is, add_is, sub_is, neg_value, Summed, summed}
use Rattle.laws.specs.laws.Sizes.{grid_most, grid_least, below_overflow}

-- finite, and at most 2 ^ j units in size
pub record Small (j : ℕ) (x : Float) : Type 0 where
  pub sign : Bool
  pub units : ℕ
  pub value : HasValue x sign units (2 ^ 1074)
  pub most : units ≤ 2 ^ j

-- positive, from 2 ^ i to 2 ^ j units
pub record Within (i j : ℕ) (x : Float) : Type 0 where
  pub units : ℕ
  pub value : HasValue x false units (2 ^ 1074)
  pub least : 2 ^ i ≤ units
  pub most : units ≤ 2 ^ j

pub small : {i j : ℕ} {x : Float} → Within i j x → Small j x
small w = record { sign = false; units = w.units; value = w.value; most = w.most }

pub wider : {i : ℕ} (k : ℕ) {x : Float} → i ≤ k → Small i x → Small k x
wider k h x = record { sign = x.sign; units = x.units; value = x.value; most = le_trans x.most (pow_mono h) }

pub looser : {i j : ℕ} (k l : ℕ) {x : Float} → k ≤ i → j ≤ l → Within i j x → Within k l x
looser k l h g x = record { units = x.units; value = x.value; least = le_trans (pow_mono h) x.least; most = le_trans x.most (pow_mono g) }

pub positive : {i j : ℕ} {x : Float} (w : Within i j x) → 0 < w.units
positive {i} w = lt_of_lt_of_le (pow_pos i) w.least

-- ---- a rounded fraction
pub small_round : (s : Bool) (a c j : ℕ) → 0 < c → j < 2098 → a * 2 ^ 1074 ≤ 2 ^ j * c → Small j (round binary64 s a c)
small_round s a c j C J h =
    let g = grid_most a c j C J h in
    record { sign = s; units = grid binary64 a c; value = round-value binary64 s a c (below_overflow (grid binary64 a c) j g J); most = g }

pub within-round : (a c i j : ℕ) → 0 < c → i < 2098 → j < 2098 → 2 ^ i * c ≤ a * 2 ^ 1074 → a * 2 ^ 1074 ≤ 2 ^ j * c → Within i j (round binary64 false a c)
within-round a c i j C I J l h =
    let g = grid_most a c j C J h in
    let o = below_overflow (grid binary64 a c) j g J in
    record { units = grid binary64 a c; value = round-value binary64 false a c o; least = grid_least a c i C I l o; most = g }

-- ---- products
-- of a · b units², in units
product_most : (a b i j k : ℕ) → a ≤ 2 ^ i → b ≤ 2 ^ j → i + j ≤ k + 1074 → a * b * 2 ^ 1074 ≤ 2 ^ k * (2 ^ 1074 * 2 ^ 1074)
product_most a b i j k p q h =
    let x : a * b ≤ 2 ^ k * 2 ^ 1074 = le_trans (mul-le-mul p q) (le_trans (le_of_eq (sym (pow-add 2 i j))) (le_trans (pow_mono h) (le_of_eq (pow-add 2 k 1074)))) in
    le_trans (mul-le-mul_right (2 ^ 1074) x) (le_of_eq (mul_assoc (2 ^ k) (2 ^ 1074) (2 ^ 1074)))

product_least : (a b i j k : ℕ) → 2 ^ i ≤ a → 2 ^ j ≤ b → k + 1074 ≤ i + j → 2 ^ k * (2 ^ 1074 * 2 ^ 1074) ≤ a * b * 2 ^ 1074
product_least a b i j k p q h =
    let x : 2 ^ k * 2 ^ 1074 ≤ a * b = le_trans (le_of_eq (sym (pow-add 2 k 1074))) (le_trans (pow_mono h) (le_trans (le_of_eq (pow-add 2 i j)) (mul-le-mul p q))) in
    le_trans (le_of_eq (sym (mul_assoc (2 ^ k) (2 ^ 1074) (2 ^ 1074)))) (mul-le-mul_right (2 ^ 1074) x)

two-units : 0 < 2 ^ 1074 * 2 ^ 1074
two-units = mul-pos (pow_pos 1074) (pow_pos 1074)

pub small_mul : {i j : ℕ} (k : ℕ) {x y : Float} → k < 2098 → i + j ≤ k + 1074 → Small i x → Small j y → Small k (x ⊗ y)
small_mul {i} {j} k {x} {y} K h v w =
    subst (Small k) (sym (mul_is binary64 x y v.sign w.sign v.units w.units (2 ^ 1074) (2 ^ 1074) (pow_pos 1074) (pow_pos 1074) v.value w.value))
    (small_round (unlike v.sign w.sign) (v.units * w.units) (2 ^ 1074 * 2 ^ 1074) k two-units K (product_most v.units w.units i j k v.most w.most h))

pub within-mul : {i j k l : ℕ} (m n : ℕ) {x y : Float} → m < 2098 → n < 2098 → m + 1074 ≤ i + k → j + l ≤ n + 1074 → Within i j x → Within k l y → Within m n (x ⊗ y)
within-mul {i} {j} {k} {l} m n {x} {y} M N g h v w =
    subst (Within m n) (sym (mul_is binary64 x y false false v.units w.units (2 ^ 1074) (2 ^ 1074) (pow_pos 1074) (pow_pos 1074) v.value w.value))
    (within-round (v.units * w.units) (2 ^ 1074 * 2 ^ 1074) m n two-units M N (product_least v.units w.units i k m v.least w.least g) (product_most v.units w.units j l n v.most w.most h))

-- ---- quotients
turn : (p b u : ℕ) → p * b * u ≡ p * (u * b)
turn p b u = mul_assoc p b u ∙ ap (λ (z : ℕ). p * z) (mul_comm b u)

quotient_most : (a b i j k : ℕ) → a ≤ 2 ^ i → 2 ^ j ≤ b → i + 1074 ≤ k + j → a * 2 ^ 1074 * 2 ^ 1074 ≤ 2 ^ k * (2 ^ 1074 * b)
quotient_most a b i j k p q h =
    let x : a * 2 ^ 1074 ≤ 2 ^ k * b =
    le_trans (mul-le-mul_right (2 ^ 1074) p) (le_trans (le_of_eq (sym (pow-add 2 i 1074))) (le_trans (pow_mono h) (le_trans (le_of_eq (pow-add 2 k j)) (mul-le-mul_left (2 ^ k) q)))) in
    le_trans (mul-le-mul_right (2 ^ 1074) x) (le_of_eq (turn (2 ^ k) b (2 ^ 1074)))

quotient_least : (a b i j k : ℕ) → 2 ^ i ≤ a → b ≤ 2 ^ j → k + j ≤ i + 1074 → 2 ^ k * (2 ^ 1074 * b) ≤ a * 2 ^ 1074 * 2 ^ 1074
quotient_least a b i j k p q h =
    let x : 2 ^ k * b ≤ a * 2 ^ 1074 =
    le_trans (mul-le-mul_left (2 ^ k) q) (le_trans (le_of_eq (sym (pow-add 2 k j))) (le_trans (pow_mono h) (le_trans (le_of_eq (pow-add 2 i 1074)) (mul-le-mul_right (2 ^ 1074) p)))) in
    le_trans (le_of_eq (sym (turn (2 ^ k) b (2 ^ 1074)))) (mul-le-mul_right (2 ^ 1074) x)

pub small_div : {i j l : ℕ} (k : ℕ) {x y : Float} → k < 2098 → i + 1074 ≤ k + j → Small i x → Within j l y → Small k (x ⊘ y)
small_div {i} {j} k {x} {y} K h v w =
    subst (Small k) (sym (div_is binary64 x y v.sign false v.units w.units (2 ^ 1074) (2 ^ 1074) (pow_pos 1074) (pow_pos 1074) (positive w) v.value w.value))
    (small_round (unlike v.sign false) (v.units * 2 ^ 1074) (2 ^ 1074 * w.units) k (mul-pos (pow_pos 1074) (positive w)) K (quotient_most v.units w.units i j k v.most w.least h))

pub within-div : {i j k l : ℕ} (m n : ℕ) {x y : Float} → m < 2098 → n < 2098 → m + l ≤ i + 1074 → j + 1074 ≤ n + k → Within i j x → Within k l y → Within m n (x ⊘ y)
within-div {i} {j} {k} {l} m n {x} {y} M N g h v w =
    subst (Within m n) (sym (div_is binary64 x y false false v.units w.units (2 ^ 1074) (2 ^ 1074) (pow_pos 1074) (pow_pos 1074) (positive w) v.value w.value))
    (within-round (v.units * 2 ^ 1074) (2 ^ 1074 * w.units) m n (mul-pos (pow_pos 1074) (positive w)) M N (quotient_least v.units w.units i l m v.least w.most g) (quotient_most v.units w.units j k n v.most w.least h))

-- ---- sums
pub double : (j : ℕ) → 2 ^ suc j ≡ 2 ^ j + 2 ^ j
double j = pow-suc 2 j ∙ (let z : 2 ^ j * 2 ≡ 2 ^ j + 2 ^ j = omega arith in z)

sum-most : (d a b p : ℕ) → (d ≡ a + b) ⊎ ((d + b ≡ a) ⊎ (d + a ≡ b)) → a ≤ p → b ≤ p → d ≤ p + p
sum-most d a b p (inl e) h k = omega arith
sum-most d a b p (inr (inl e)) h k = omega arith
sum-most d a b p (inr (inr e)) h k = omega arith

small_summed : (j a b : ℕ) (z : Float) → suc j < 2098 → a ≤ 2 ^ j → b ≤ 2 ^ j → Summed binary64 z a b (2 ^ 1074) → Small (suc j) z
small_summed j a b z J p q s =
    subst (Small (suc j)) (sym s.is)
    (small_round s.sign s.size (2 ^ 1074) (suc j) (pow_pos 1074) J (mul-le-mul_right (2 ^ 1074) (le_trans (sum-most s.size a b (2 ^ j) s.how p q) (le_of_eq (sym (double j))))))

pub small_add : {j : ℕ} {x y : Float} → suc j < 2098 → Small j x → Small j y → Small (suc j) (x ⊕ y)
small_add {j} {x} {y} J v w =
    subst (Small (suc j)) (sym (add_is binary64 x y v.sign w.sign v.units w.units (2 ^ 1074) (pow_pos 1074) v.value w.value))
    (small_summed j v.units w.units _ J v.most w.most (summed binary64 v.sign w.sign v.units w.units (2 ^ 1074)))

pub small_sub : {j : ℕ} {x y : Float} → suc j < 2098 → Small j x → Small j y → Small (suc j) (x ⊖ y)
small_sub {j} {x} {y} J v w =
    subst (Small (suc j)) (sym (sub_is binary64 x y v.sign w.sign v.units w.units (2 ^ 1074) (pow_pos 1074) v.value w.value))
    (small_summed j v.units w.units _ J v.most w.most (summed binary64 v.sign (not w.sign) v.units w.units (2 ^ 1074)))

pub small_neg : {j : ℕ} {x : Float} → Small j x → Small j (neg x)
small_neg {j} {x} v = record { sign = not v.sign; units = v.units; value = neg_value x v.sign v.units (2 ^ 1074) v.value; most = v.most }

plain-sum : (a b : ℕ) → sum binary64 false a false b (2 ^ 1074) ≡ round binary64 false (a + b) (2 ^ 1074)
unfolding sum
plain-sum a b = refl

pub add-plain : {i j k l : ℕ} {x y : Float} (v : Within i j x) (w : Within k l y) → x ⊕ y ≡ round binary64 false (v.units + w.units) (2 ^ 1074)
add-plain {x = x} {y = y} v w = add_is binary64 x y false false v.units w.units (2 ^ 1074) (pow_pos 1074) v.value w.value ∙ plain-sum v.units w.units

pub within-add : {i j : ℕ} {x y : Float} → suc i < 2098 → suc j < 2098 → Within i j x → Within i j y → Within (suc i) (suc j) (x ⊕ y)
within-add {i} {j} I J v w =
    subst (Within (suc i) (suc j)) (sym (add-plain v w))
    (within-round (v.units + w.units) (2 ^ 1074) (suc i) (suc j) (pow_pos 1074) I J
    (mul-le-mul_right (2 ^ 1074) (le_trans (le_of_eq (double i)) (both v.least w.least)))
    (mul-le-mul_right (2 ^ 1074) (le_trans (both v.most w.most) (le_of_eq (sym (double j))))))
  where
    both : {a b c d : ℕ} → a ≤ b → c ≤ d → a + c ≤ b + d
    both p q = omega arith
