-- The largest f64: no finite one is larger, no sum of 1 and a finite one overflows, and 0 more is the same. Assumes nothing.
use Rattle.std.specs.Prelude.{◌≡◌, refl, ◌⊎◌, Bool, true, false, cond, ◌&&◌, ℕ, zero, suc, ◌+◌, ◌-◌, ◌*◌, ◌^◌, ◌≤◌, ◌<◌, T, ltb, Float}
use Rattle.std.proofs.Common.{sym, ap, ◌∙◌, subst, inl, inr, le_trans, le_of_eq, le_of_lt, lt_of_le_of_lt, lt_of_lt_of_le, zero-add, mul_assoc, mul_right_comm, mul-le-mul, mul-le-mul_right, mul-lt-mul_of_pos_right, lt_of_mul-lt-mul_right, le_of_mul-le-mul_right, arith, lit≤, pow-add, pow_pos, pow_mono}
use Rattle.std.proofs.Math.Nat.{sub-zero}
use Rattle.std.specs.Float.{nan, inf, fin, binary64}
use Rattle.std.specs.Float.Ieee.{up, down, round, sum, fits, of_bits}
use Rattle.std.specs.Float.Ieee.Digits.{back}
use Rattle.std.specs.Float.Ieee.Exact.{HasValue}
use Rattle.std.specs.Float.Ieee.Fits.{down_pos}
use Rattle.std.specs.Float.Ieee.Scale.{finite, grid, overflow, round_under}
use Rattle.laws.specs.Arithmetic.{◌⊕◌, +0}
use Rattle.laws.specs.laws.Bounds.{Small}
use Rattle.laws.specs.laws.Exact.{fits_bounds, round_of_value}
use Rattle.laws.specs.laws.Flags.{lt-or-le, is_some}
use Rattle.laws.specs.laws.Operations.{add_is, Summed}
use Rattle.laws.specs.laws.Rounding.{round-value}
use Rattle.laws.specs.laws.Sizes.{grid_mono, finite_of_lem, units-same}
use Rattle.scaling.specs.laws.Multiples.{digits}

-- the largest f64, in units
abbrev pub top : ℕ
top = 9007199254740991 * 2 ^ 2045

-- ---- a finite f64 is at most that
under : (x : Float) (s : Bool) (n : ℕ) → T (fits binary64 x) → HasValue x s n (2 ^ 1074) → n < 2 ^ 2098
under nan s n f v = absurd v
under (inf t) s n f v = absurd v
under (fin t zero e) s n f v = lt_of_le_of_lt (le_of_mul-le-mul_right (le_of_eq (sym v.1 ∙ flat (up e) (2 ^ 1074) (down e))) (down_pos e)) (pow_pos 2098)
  where
    flat : (u U d : ℕ) → 0 * u * U ≡ 0 * d
    flat u U d = omega arith
under (fin t (suc m) e) s n f v =
    lt_of_mul-lt-mul_right (down e) (lt_of_le_of_lt (le_of_eq (sym v.1)) (lt_of_lt_of_le (mul-lt-mul_of_pos_right (fits_bounds binary64 t m e f).2 (pow_pos 1074)) (le_of_eq (mul_right_comm (2 ^ 1024) (down e) (2 ^ 1074) ∙ ap (λ (z : ℕ). z * down e) (sym (pow-add 2 1024 1074))))))

pub small_finite : (x : Float) → T (fits binary64 x) → T (finite x) → Small 2098 x
small_finite x f h = let d = digits x h f in record { sign = d.sign; units = d.lead * 2 ^ d.place; value = d.value; most = le_of_lt (under x d.sign (d.lead * 2 ^ d.place) f d.value) }

digits-most : (q t : ℕ) → q < 2 ^ 53 → q * 2 ^ t < 2 ^ 2098 → q * 2 ^ t ≤ top
digits-most q t f h = go (lt-or-le t 2045)
  where
    down_one : {a : ℕ} → a < 9007199254740992 → a ≤ 9007199254740991
    down_one h = omega arith

    go : (t < 2045) ⊎ (2045 ≤ t) → q * 2 ^ t ≤ top
    go (inl l) = mul-le-mul (down_one f) (pow_mono (le_of_lt l))
    go (inr l) =
        let e : q * 2 ^ t ≡ q * 2 ^ (t - 2045) * 2 ^ 2045 = ap (λ (z : ℕ). q * z) (ap (λ (z : ℕ). 2 ^ z) (sym (back t 2045 l)) ∙ pow-add 2 (t - 2045) 2045) ∙ sym (mul_assoc q (2 ^ (t - 2045)) (2 ^ 2045)) in
        let r : q * 2 ^ (t - 2045) < 2 ^ 53 = lt_of_mul-lt-mul_right (2 ^ 2045) (lt_of_le_of_lt (le_of_eq (sym e)) (lt_of_lt_of_le h (lit≤ tt))) in
        le_trans (le_of_eq e) (mul-le-mul_right (2 ^ 2045) (down_one r))

pub most : (x : Float) (s : Bool) (n : ℕ) → T (fits binary64 x) → HasValue x s n (2 ^ 1074) → n ≤ top
most x s n f v =
    let d = digits x (finite_of_lem x s n (2 ^ 1074) v) f in
    le_trans (le_of_eq (units-same x s d.sign n (d.lead * 2 ^ d.place) (2 ^ 1074) v d.value)) (digits-most d.lead d.place d.few (under x d.sign (d.lead * 2 ^ d.place) f d.value))

-- ---- 1 more rounds to no more
limit : grid binary64 (top + 2 ^ 1074) (2 ^ 1074) < overflow binary64
unfolding round
limit = round_under binary64 (top + 2 ^ 1074) (2 ^ 1074) tt

pub size-most : (d a b : ℕ) → (d ≡ a + b) ⊎ ((d + b ≡ a) ⊎ (d + a ≡ b)) → d ≤ a + b
size-most d a b (inl e) = omega arith
size-most d a b (inr (inl e)) = omega arith
size-most d a b (inr (inr e)) = omega arith

pub summed_small : (a b : ℕ) (z : Float) → a + b ≤ top + 2 ^ 1074 → Summed binary64 z a b (2 ^ 1074) → Small 2098 z
summed_small a b z h s =
    let g = grid binary64 s.size (2 ^ 1074) in
    let o : g < overflow binary64 = lt_of_le_of_lt (grid_mono s.size (2 ^ 1074) (top + 2 ^ 1074) (2 ^ 1074) (pow_pos 1074) (pow_pos 1074) (mul-le-mul_right (2 ^ 1074) (le_trans (size-most s.size a b s.how) h)) limit) limit in
    record { sign = s.sign; units = g; value = subst (λ (y : Float). HasValue y s.sign g (2 ^ 1074)) (sym s.is) (round-value binary64 s.sign s.size (2 ^ 1074) o); most = le_of_lt o }

-- ---- 0 more is the same
pub zero-plus : (y : Float) (t : Bool) (n : ℕ) → T (fits binary64 y) → HasValue y t n (2 ^ 1074) → 0 < n → +0 ⊕ y ≡ y
unfolding of_bits sum
zero-plus y t n f v h =
    add_is binary64 +0 y false t 0 n (2 ^ 1074) (pow_pos 1074) (refl, refl) v ∙ go t ∙ round_of_value binary64 y t n (2 ^ 1074) (pow_pos 1074) f v
  where
    go : (t : Bool) → sum binary64 false 0 t n (2 ^ 1074) ≡ round binary64 t n (2 ^ 1074)
    go false = ap (λ (z : ℕ). round binary64 false z (2 ^ 1074)) (zero-add n)
    go true = ap (λ (b : Bool). cond b (round binary64 true (n - 0) (2 ^ 1074)) (round binary64 (false && ltb n 0) (0 - n) (2 ^ 1074))) (is_some n h) ∙ ap (λ (z : ℕ). round binary64 true z (2 ^ 1074)) (sub-zero n)
