-- Values that are zero or from 2 ^ i to 2 ^ j units of 2 ^ -1074 in size: squares, quotients and differences of such. A difference need not be as small as it may look, since both f64 are multiples of a common place. Assumes nothing.
use Rattle.std.specs.Prelude.{◌≡◌, refl, ◌⊎◌, Bool, true, false, ℕ, zero, suc, ◌+◌, ◌*◌, ◌^◌, ◌≤◌, ◌<◌, T, Float}
use Rattle.std.proofs.Common.{sym, ap, ◌∙◌, subst, inl, inr, le_trans, le_of_eq, zero-lt-suc, zero-mul, mul-pos, mul-le-mul_right, arith, pow_pos, pow_mono}
use Rattle.std.specs.Float.{binary64}
use Rattle.std.specs.Float.Ieee.{round, unlike, fits}
use Rattle.std.specs.Float.Ieee.Exact.{HasValue}
use Rattle.std.specs.Float.Ieee.Scale.{grid}
use Rattle.laws.specs.Arithmetic.{◌⊖◌, ◌⊗◌, ◌⊘◌}
use Rattle.laws.specs.laws.Bounds.{Small, Within, double, small, positive, small_sub, small_mul, within-mul, within-div}
use Rattle.laws.specs.laws.Flags.{lt-or-le}
use Rattle.laws.specs.laws.Operations.{mul_is, div_is, Summed}
use Rattle.laws.specs.laws.Rounding.{round-value}
use Rattle.laws.specs.laws.Sizes.{grid_most, grid_least, below_overflow, units-same}
use Rattle.whole.specs.Whole.{magnitude_of}
use Rattle.whole.specs.laws.Magnitude.{magnitude_value}
use Rattle.scaling.specs.laws.Operations.{grid_zero}
use Rattle.scaling.specs.laws.Multiples.{Coarse, Rounded, rounded, coarse_sub, coarse_at, taken}

-- ---- zero, or from 2 ^ i to 2 ^ j units in size
pub record Ranged (s : Bool) (i j : ℕ) (x : Float) : Type 0 where
  pub units : ℕ
  pub value : HasValue x s units (2 ^ 1074)
  pub least : (units ≡ 0) ⊎ (2 ^ i ≤ units)
  pub most : units ≤ 2 ^ j

pub ranged : {i j : ℕ} {x : Float} → Within i j x → Ranged false i j x
ranged w = record { units = w.units; value = w.value; least = inr w.least; most = w.most }

pub ranged_looser : {s : Bool} {i j : ℕ} (k l : ℕ) {x : Float} → k ≤ i → j ≤ l → Ranged s i j x → Ranged s k l x
ranged_looser k l h g x = record { units = x.units; value = x.value; least = elim x.least [ inl e ↦ inl e | inr m ↦ inr (le_trans (pow_mono h) m) ]; most = le_trans x.most (pow_mono g) }

ranged_coarse : {k j : ℕ} {x : Float} (v : Coarse k j x) → Ranged v.sign k j x
ranged_coarse {k} {j} {x} v = record { units = v.count * 2 ^ k; value = v.value; least = some v.count; most = v.most }
  where
    some : (n : ℕ) → (n * 2 ^ k ≡ 0) ⊎ (2 ^ k ≤ n * 2 ^ k)
    some zero = inl (zero-mul (2 ^ k))
    some (suc n) = inr (let z : 2 ^ k ≤ suc n * 2 ^ k = omega arith in z)

-- what a / c rounds to
pub ranged_round : (s : Bool) (a c i j : ℕ) → 0 < c → i < 2098 → j < 2098 → (a ≡ 0) ⊎ (2 ^ i * c ≤ a * 2 ^ 1074) → a * 2 ^ 1074 ≤ 2 ^ j * c → Ranged s i j (round binary64 s a c)
ranged_round s a c i j C I L l h =
    let g = grid binary64 a c in
    let m : g ≤ 2 ^ j = grid_most a c j C L h in
    let o = below_overflow g j m L in
    record { units = g; value = round-value binary64 s a c o; least = elim l [ inl e ↦ inl (grid_zero a c C e) | inr k ↦ inr (grid_least a c i C I k o) ]; most = m }

ranged_none : (s : Bool) (a c i j : ℕ) → 0 < c → i < 2098 → j < 2098 → a ≡ 0 → Ranged s i j (round binary64 s a c)
ranged_none s a c i j C I L e = ranged_round s a c i j C I L (inl e) (le_trans (le_of_eq (ap (λ (z : ℕ). z * 2 ^ 1074) e ∙ zero-mul (2 ^ 1074))) (let p = mul-pos (pow_pos j) C in let z : 0 ≤ 2 ^ j * c = omega arith in z))

-- ---- a square
even : (s : Bool) → unlike s s ≡ false
even true = refl
even false = refl

two-units : 0 < 2 ^ 1074 * 2 ^ 1074
two-units = mul-pos (pow_pos 1074) (pow_pos 1074)

squared : (x : Float) (s : Bool) (n : ℕ) → HasValue x s n (2 ^ 1074) → x ⊗ x ≡ round binary64 false (n * n) (2 ^ 1074 * 2 ^ 1074)
squared x s n v = mul_is binary64 x x s s n n (2 ^ 1074) (2 ^ 1074) (pow_pos 1074) (pow_pos 1074) v v ∙ ap (λ (b : Bool). round binary64 b (n * n) (2 ^ 1074 * 2 ^ 1074)) (even s)

-- no sign is left
pub small_square : {i : ℕ} (k : ℕ) {x : Float} → k < 2098 → i + i ≤ k + 1074 → Small i x → Ranged false 0 k (x ⊗ x)
small_square k {x} K h v =
    let z = small_mul k K h v v in
    let r = rounded false (v.units * v.units) (2 ^ 1074 * 2 ^ 1074) (squared x v.sign v.units v.value) z in
    let g = grid binary64 (v.units * v.units) (2 ^ 1074 * 2 ^ 1074) in
    record { units = g; value = r.value; least = whole g; most = le_trans (le_of_eq (units-same (x ⊗ x) false z.sign g z.units (2 ^ 1074) r.value z.value)) z.most }
  where
    whole : (n : ℕ) → (n ≡ 0) ⊎ (2 ^ 0 ≤ n)
    whole zero = inl refl
    whole (suc n) = inr (zero-lt-suc n)

pub within-square : (i j k l : ℕ) (x : Float) (s : Bool) (n : ℕ) → k < 2098 → l < 2098 → k + 1074 ≤ i + i → j + j ≤ l + 1074 → HasValue x s n (2 ^ 1074) → 2 ^ i ≤ n → n ≤ 2 ^ j → Within k l (x ⊗ x)
within-square i j k l x s n K L g h v a b =
    let u = magnitude_value x s n (2 ^ 1074) v in
    let w : Within i j (magnitude_of x) = record { units = n; value = u; least = a; most = b } in
    subst (Within k l) (squared (magnitude_of x) false n u ∙ sym (squared x s n v)) (within-mul k l K L g h w w)

pub ranged_square : {s : Bool} {i j : ℕ} (k l : ℕ) {x : Float} → k < 2098 → l < 2098 → k + 1074 ≤ i + i → j + j ≤ l + 1074 → Ranged s i j x → Ranged false k l (x ⊗ x)
ranged_square {s} {i} {j} k l {x} K L g h v = go v.least
  where
    n : ℕ
    n = v.units

    go : (n ≡ 0) ⊎ (2 ^ i ≤ n) → Ranged false k l (x ⊗ x)
    go (inl e) = subst (Ranged false k l) (sym (squared x s n v.value)) (ranged_none false (n * n) (2 ^ 1074 * 2 ^ 1074) k l two-units K L (ap (λ (z : ℕ). z * n) e ∙ zero-mul n))
    go (inr m) = ranged (within-square i j k l x s n K L g h v.value m v.most)

-- ---- a quotient
pub ranged_div : {i j k l : ℕ} (m n : ℕ) {x y : Float} → m < 2098 → n < 2098 → m + l ≤ i + 1074 → j + 1074 ≤ n + k → Ranged false i j x → Within k l y → Ranged false m n (x ⊘ y)
ranged_div {i} {j} m n {x} {y} M N g h v w = go v.least
  where
    go : (v.units ≡ 0) ⊎ (2 ^ i ≤ v.units) → Ranged false m n (x ⊘ y)
    go (inl e) =
        subst (Ranged false m n) (sym (div_is binary64 x y false false v.units w.units (2 ^ 1074) (2 ^ 1074) (pow_pos 1074) (pow_pos 1074) (positive w) v.value w.value))
        (ranged_none false (v.units * 2 ^ 1074) (2 ^ 1074 * w.units) m n (mul-pos (pow_pos 1074) (positive w)) M N (ap (λ (z : ℕ). z * 2 ^ 1074) e ∙ zero-mul (2 ^ 1074)))
    go (inr q) = let u : Within i j x = record { units = v.units; value = v.value; least = q; most = v.most } in ranged (within-div m n M N g h u w)

-- ---- a difference of two f64, one of them 2 ^ (54 + k) units at least: zero, or 2 ^ k at least
pub apart : (d a b p : ℕ) → (d ≡ a + b) ⊎ ((d + b ≡ a) ⊎ (d + a ≡ b)) → p + p ≤ a → b < p → p ≤ d
apart d a b p (inl e) h k = omega arith
apart d a b p (inr (inl e)) h k = omega arith
apart d a b p (inr (inr e)) h k = omega arith

pub ranged_sub : {i j : ℕ} (k : ℕ) {x y : Float} → suc j < 2098 → 53 + k < 2098 → suc (53 + k) ≤ i → T (fits binary64 x) → T (fits binary64 y) → Within i j x → Small j y → (s : Bool) × Ranged s k (suc j) (x ⊖ y)
ranged_sub {i} {j} k {x} {y} J K h fx fy v w = go (lt-or-le w.units P)
  where
    P : ℕ
    P = 2 ^ (53 + k)

    z : Small (suc j) (x ⊖ y)
    z = small_sub J (small v) w

    s : Summed binary64 (x ⊖ y) v.units w.units (2 ^ 1074)
    s = taken x y false w.sign v.units w.units v.value w.value

    g : ℕ
    g = grid binary64 s.size (2 ^ 1074)

    r : Rounded s.sign s.size (2 ^ 1074) (x ⊖ y)
    r = rounded s.sign s.size (2 ^ 1074) s.is z

    same : g ≡ z.units
    same = units-same (x ⊖ y) s.sign z.sign g z.units (2 ^ 1074) r.value z.value

    far : P + P ≤ v.units
    far = le_trans (le_of_eq (sym (double (53 + k)))) (le_trans (pow_mono h) v.least)

    once : (p a : ℕ) → p + p ≤ a → p ≤ a
    once p a h = omega arith

    go : (w.units < P) ⊎ (P ≤ w.units) → (s : Bool) × Ranged s k (suc j) (x ⊖ y)
    go (inr l) = let c = coarse_sub J (coarse_at k j x false v.units fx v.value (once P v.units far) v.most) (coarse_at k j y w.sign w.units fy w.value l w.most) in (c.sign, ranged_coarse c)
    go (inl l) =
        let d : P ≤ s.size = apart s.size v.units w.units P s.how far l in
        let low : P ≤ g = grid_least s.size (2 ^ 1074) (53 + k) (pow_pos 1074) K (mul-le-mul_right (2 ^ 1074) d) r.fine in
        (z.sign, record { units = z.units; value = z.value; least = inr (le_trans (pow_mono (let e : k ≤ 53 + k = omega arith in e)) (le_trans low (le_of_eq same))); most = z.most })
