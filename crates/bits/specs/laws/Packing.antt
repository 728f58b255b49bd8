-- The pattern of q * 2 ^ k smallest values is k * 2 ^ (prec - 1) + q after the sign: for a q of prec digits, for any smaller q where k = 0, and for q = 2 ^ prec, where the carry goes into the exponent's field. Assumes nothing.
use Rattle.std.specs.Prelude.{◌≡◌, ℕ, zero, suc, ◌+◌, ◌-◌, ◌*◌, ◌/◌, ◌%◌, ◌^◌, ◌<◌, ◌≤◌, Bool, true, false, cond, not, T, ◌⊎◌, from_bits, nat_lt, refl, Float}
use Rattle.std.proofs.Common.{sym, ap, ◌∙◌, subst, inl, inr, le_trans, le_of_eq, le_refl, le_antisymm, lt_of_le_of_lt, eq-or-lt_of_le, eq-zero-or-pos, mul_assoc, mul_comm, add_assoc, mul-div_cancel, mul-le-mul_right, le_of_mul-le-mul_right, pow-suc, arith, lt→ltb, ltb→lt, nltb→le, lit≤, pow-add, pow_pos, pow_mono, shl_lt}
use Rattle.std.proofs.Math.Pow.{pow-lt}
use Rattle.std.specs.Float.{inf, fin, Format, binary64}
use Rattle.std.specs.Float.Ieee.{prec, low, up, down, size, odd, units, fits, is_nan, hid, ones, top, nan_bits, to_bits}
use Rattle.std.specs.Float.Ieee.Bits.{of_bits-to_bits, nan_bits_is, is_true}
use Rattle.std.specs.Float.Ieee.Digits.{size-le}
use Rattle.std.specs.Float.Ieee.Exact.{HasValue, units_val}
use Rattle.std.specs.Float.Ieee.Fits.{odd-fits, inf-fits, down_pos}
use Rattle.std.specs.Float.Ieee.Scale.{overflow}
use Rattle.laws.specs.laws.Flags.{fails}
use Rattle.laws.specs.laws.Digits.{pow_lt_back, size-gt}
use Rattle.laws.specs.laws.Rounding.{units_over}

-- ---- the field and the digits of n smallest values, for p digits
abbrev written : ℕ → ℕ → ℕ
written p n = (size n - p) * 2 ^ (p - 1) + n / 2 ^ (size n - p)

-- q has p digits, or no more and k = 0
drops : (p q k : ℕ) → 0 < p → q < 2 ^ p → (0 < k → 2 ^ (p - 1) ≤ q) → size (q * 2 ^ k) - p ≡ k
drops p q k P a b = go (eq-zero-or-pos k)
  where
    hi : size (q * 2 ^ k) ≤ p + k
    hi = size-le (q * 2 ^ k) (p + k) (shl_lt p k a)

    lo : 2 ^ (p - 1) ≤ q → p - 1 + k < size (q * 2 ^ k)
    lo h = size-gt (q * 2 ^ k) (p - 1 + k) (le_trans (le_of_eq (pow-add 2 (p - 1) k)) (mul-le-mul_right (2 ^ k) h))

    go : (k ≡ 0) ⊎ (0 < k) → size (q * 2 ^ k) - p ≡ k
    go (inl z) = let h = hi in omega arith
    go (inr g) = let h = hi in let l = lo (b g) in omega arith

written-plain : (p q k : ℕ) → 0 < p → q < 2 ^ p → (0 < k → 2 ^ (p - 1) ≤ q) → written p (q * 2 ^ k) ≡ k * 2 ^ (p - 1) + q
written-plain p q k P a b =
    ap (λ (x : ℕ). x * 2 ^ (p - 1) + q * 2 ^ k / 2 ^ x) (drops p q k P a b) ∙ ap (λ (x : ℕ). k * 2 ^ (p - 1) + x) (mul-div_cancel q (pow_pos k))

written_carry : (p k : ℕ) → 0 < p → written p (2 ^ p * 2 ^ k) ≡ k * 2 ^ (p - 1) + 2 ^ p
written_carry p k P =
    let h = 2 ^ (p - 1) in
    let d : 2 ^ p ≡ h * 2 = ap (λ (x : ℕ). 2 ^ x) (let z : p ≡ suc (p - 1) = omega arith in z) ∙ pow-suc 2 (p - 1) in
    let e : h * 2 ^ suc k ≡ 2 ^ p * 2 ^ k = ap (λ (x : ℕ). h * x) (pow-suc 2 k ∙ mul_comm (2 ^ k) 2) ∙ sym (mul_assoc h 2 (2 ^ k)) ∙ ap (λ (x : ℕ). x * 2 ^ k) (sym d) in
    let small : h < 2 ^ p = pow-lt (let z : p - 1 < p = omega arith in z) in
    ap (written p) (sym e) ∙ written-plain p h (suc k) P small (λ g. le_refl h) ∙ (let z : suc k * h + h ≡ k * h + h * 2 = omega arith in z) ∙ ap (λ (x : ℕ). k * h + x) (sym d)

written_is : (p q k : ℕ) → 0 < p → q ≤ 2 ^ p → (0 < k → 2 ^ (p - 1) ≤ q) → written p (q * 2 ^ k) ≡ k * 2 ^ (p - 1) + q
written_is p q k P a b = elim (eq-or-lt_of_le a) [
  | inl e ↦ subst (λ (x : ℕ). written p (x * 2 ^ k) ≡ k * 2 ^ (p - 1) + x) (sym e) (written_carry p k P)
  | inr l ↦ written-plain p q k P l b
]

-- the pattern of a finite value, by its size
bits_of : (f : Format) (v : Float) (s : Bool) (a : ℕ) → HasValue v s a (2 ^ low f) → to_bits f v ≡ cond s (top f) 0 + written (prec f) a
unfolding to_bits
bits_of f (fin t m e) s a h =
    let n : m * up e * 2 ^ low f / down e ≡ a = ap (λ (x : ℕ). x / down e) h.1 ∙ mul-div_cancel a (down_pos e) in
    ap (λ (x : ℕ). cond t (top f) 0 + (size x - prec f) * hid f + x / 2 ^ (size x - prec f)) n
    ∙ ap (λ (b : Bool). cond b (top f) 0 + (size a - prec f) * hid f + a / 2 ^ (size a - prec f)) h.0
    ∙ add_assoc (cond s (top f) 0) ((size a - prec f) * hid f) (a / 2 ^ (size a - prec f))
bits_of f lib.Ieee.nan s a h = elim h [ ]
bits_of f (inf _) s a h = elim h [ ]

-- ---- `units`, below the overflow and from it on
units_under : (f : Format) (s : Bool) (q k : ℕ) → q * 2 ^ k < overflow f → units f s q k ≡ odd (suc (prec f)) s q k (low f)
unfolding units
units_under f s q k h = ap (λ (b : Bool). cond b (odd (suc (prec f)) s q k (low f)) (inf s)) (is_true (nat_lt (q * 2 ^ k) (overflow f)) (lt→ltb (q * 2 ^ k) (overflow f) h))

finite_pattern : (f : Format) (s : Bool) (q k : ℕ) → 2 ≤ prec f → q ≤ 2 ^ prec f → (0 < k → 2 ^ (prec f - 1) ≤ q) → q * 2 ^ k < overflow f → from_bits f (cond s (top f) 0 + (k * hid f + q)) ≡ units f s q k
finite_pattern f s q k P a b h =
    let v = units f s q k in
    let fit : T (fits f v) = subst (λ (x : Float). T (fits f x)) (sym (units_under f s q k h)) (odd-fits f (suc (prec f)) s q k (lt_of_le_of_lt a (pow-lt (le_refl (suc (prec f))))) a h) in
    let bits : to_bits f v ≡ cond s (top f) 0 + (k * hid f + q) =
    bits_of f v s (q * 2 ^ k) (units_val f s q k h) ∙ ap (λ (x : ℕ). cond s (top f) 0 + x) (written_is (prec f) q k (let z : 0 < prec f = omega arith in z) a b) in
    ap (from_bits f) (sym bits) ∙ of_bits-to_bits f v fit

inf-pattern : (f : Format) (s : Bool) → from_bits f (cond s (top f) 0 + ones f * hid f) ≡ inf s
unfolding to_bits
inf-pattern f s = of_bits-to_bits f (inf s) (inf-fits f s)

-- at the highest k only a carry overflows, and its sum is the infinity's pattern
carry_only : (p m q k : ℕ) → q ≤ 2 ^ p → k ≤ m → 2 ^ (p + m) ≤ q * 2 ^ k → (q ≡ 2 ^ p) × (k ≡ m)
carry_only p m q k a b h =
    let x : 2 ^ (p + m) ≤ 2 ^ (p + k) = le_trans h (le_trans (mul-le-mul_right (2 ^ k) a) (le_of_eq (sym (pow-add 2 p k)))) in
    let y : p + m < suc (p + k) = pow_lt_back (p + m) (suc (p + k)) (lt_of_le_of_lt x (pow-lt (le_refl (suc (p + k))))) in
    let z : k ≡ m = omega arith in
    (le_antisymm a (le_of_mul-le-mul_right (le_trans (le_of_eq (sym (pow-add 2 p m))) (subst (λ (n : ℕ). 2 ^ (p + m) ≤ q * 2 ^ n) z h)) (pow_pos m)), z)

-- ---- the code's own patterns
abbrev pub pattern : ℕ → ℕ → ℕ → ℕ
pattern sign q k = sign + (k * 2 ^ 52 % 2 ^ 64 + q)

plain : (s : Bool) (q k : ℕ) → q ≤ 2 ^ 53 → k < 2046 → (0 < k → 2 ^ 52 ≤ q) → from_bits binary64 (cond s (2 ^ 63) 0 + (k * 2 ^ 52 + q)) ≡ units binary64 s q k
plain s q k a l b = go (nat_lt (q * 2 ^ k) (overflow binary64)) (ltb→lt (q * 2 ^ k) (overflow binary64)) (nltb→le (q * 2 ^ k) (overflow binary64))
  where
    go : (t : Bool) → (T t → q * 2 ^ k < overflow binary64) → (T (not t) → overflow binary64 ≤ q * 2 ^ k) → from_bits binary64 (cond s (2 ^ 63) 0 + (k * 2 ^ 52 + q)) ≡ units binary64 s q k
    go true x y = finite_pattern binary64 s q k (lit≤ tt) a b (x tt)
    go false x y =
        let w = carry_only 53 2045 q k a (let z : k ≤ 2045 = omega arith in z) (y tt) in
        (λ i. from_bits binary64 (cond s (2 ^ 63) 0 + (w.1 i * 2 ^ 52 + w.0 i))) ∙ inf-pattern binary64 s ∙ sym (units_over binary64 s q k (y tt))

pub packed_is : (s : Bool) (sign q k : ℕ) → sign ≡ cond s (2 ^ 63) 0 → q ≤ 2 ^ 53 → k < 2046 → (0 < k → 2 ^ 52 ≤ q) → from_bits binary64 (pattern sign q k) ≡ units binary64 s q k
packed_is s sign q k e a l g =
    let z : k * 2 ^ 52 % 2 ^ 64 ≡ k * 2 ^ 52 = omega arith in
    (λ i. from_bits binary64 (e i + (z i + q))) ∙ plain s q k a l g

pub over_is : (s : Bool) (sign q k : ℕ) → sign ≡ cond s (2 ^ 63) 0 → 2046 ≤ k → (0 < k → 2 ^ 52 ≤ q) → from_bits binary64 (sign + 0x7ff0_0000_0000_0000) ≡ units binary64 s q k
over_is s sign q k e l g =
    ap (λ (x : ℕ). from_bits binary64 (x + 0x7ff0_0000_0000_0000)) e
    ∙ inf-pattern binary64 s
    ∙ sym (units_over binary64 s q k (le_trans (pow_mono (let z : 1074 + 1024 ≤ 52 + k = omega arith in z)) (le_trans (le_of_eq (pow-add 2 52 k)) (mul-le-mul_right (2 ^ k) (g (let z : 0 < k = omega arith in z))))))

-- neither is a NaN's
units_no_nan : (f : Format) (s : Bool) (q k : ℕ) → is_nan (units f s q k) ≡ false
unfolding units odd is_nan
units_no_nan f s q k = go (nat_lt (q * 2 ^ k) (overflow f)) q
  where
    go : (b : Bool) (q : ℕ) → is_nan (cond b (odd (suc (prec f)) s q k (low f)) (inf s)) ≡ false
    go true zero = refl
    go true (suc q) = refl
    go false q = refl

pub no_nan : (s : Bool) (q k b : ℕ) → from_bits binary64 b ≡ units binary64 s q k → T (not (nan_bits binary64 b))
no_nan s q k b e = fails (nan_bits_is binary64 b ∙ ap is_nan e ∙ units_no_nan binary64 s q k)
