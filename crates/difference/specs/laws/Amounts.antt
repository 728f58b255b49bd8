-- How many units of 2^-1074 a pattern stands for: the more, the larger the pattern without its sign. Assumes nothing.
use Rattle.std.specs.Prelude.{◌≡◌, refl, Bool, true, false, cond, ◌&&◌, ◌||◌, ℕ, ◌+◌, ◌-◌, ◌*◌, ◌/◌, ◌%◌, ◌^◌, ◌≤◌, ◌<◌, ltb, eqb, Float}
use Rattle.std.proofs.Common.{ap, ◌∙◌, sym, subst, inl, inr, le_trans, le_of_eq, lt_of_lt_of_le, le_of_lt, lt_trans, lt_irrefl, eq-or-lt_of_le, mul-le-mul_right, mul-lt-mul_of_pos_right, arith, pow-add, pow_pos, pow_mono}
use Rattle.std.specs.Bool.{beq}
use Rattle.std.specs.Float.{nan, inf, fin, binary64}
use Rattle.std.specs.Float.Ieee.{below, level, units, of_bits, of_fields}
use Rattle.std.specs.Float.Ieee.Exact.{HasValue, units_val}
use Rattle.laws.specs.Arithmetic.{float}
use Rattle.laws.specs.laws.Flags.{lt-or-le}
use Rattle.laws.specs.laws.Sum.{ltb-same}
use Rattle.bits.specs.laws.Packing.{packed_is}
use Rattle.difference.specs.laws.Values.{eqb_same, Stands, beyond, under_not}

-- ---- how many units a pattern without its sign stands for: digits and a shift
abbrev shift : ℕ → ℕ
shift m = m / 2 ^ 52 - 1

abbrev digits : ℕ → ℕ
digits m = m - shift m * 2 ^ 52

unfoldable pub amount : ℕ → ℕ
amount m = digits m * 2 ^ shift m

digits_lt : (m : ℕ) → digits m < 2 ^ 53
digits_lt m = omega arith

digits-ge : (m : ℕ) → 0 < shift m → 2 ^ 52 ≤ digits m
digits-ge m h = omega arith

amount-zero : amount 0 ≡ 0
unfolding amount
amount-zero = refl

-- more for a larger pattern
shift_le : (m n : ℕ) → m < n → shift m ≤ shift n
shift_le m n h = omega arith

digits_same : (m n : ℕ) → m < n → shift m ≡ shift n → digits m < digits n
digits_same m n h e = omega arith

amount-lt : (m n : ℕ) → m < n → amount m < amount n
unfolding amount
amount-lt m n h =
    let k = shift m in
    let l = shift n in
    elim (eq-or-lt_of_le (shift_le m n h)) [
      | inl e ↦ lt_of_lt_of_le (mul-lt-mul_of_pos_right (digits_same m n h e) (pow_pos k)) (le_of_eq (ap (λ (j : ℕ). digits n * 2 ^ j) e))
      | inr g ↦
          lt_of_lt_of_le (mul-lt-mul_of_pos_right (digits_lt m) (pow_pos k))
          (le_trans (le_of_eq (sym (pow-add 2 53 k)))
          (le_trans (pow_mono (more k l g))
          (le_trans (le_of_eq (pow-add 2 52 l)) (mul-le-mul_right (2 ^ l) (digits-ge n (some k l g))))))
    ]
  where
    more : (k l : ℕ) → k < l → 53 + k ≤ 52 + l
    more k l g = omega arith

    some : (k l : ℕ) → k < l → 0 < l
    some k l g = omega arith

amount_back : (m n : ℕ) → amount m < amount n → m < n
amount_back m n h = elim (lt-or-le m n) [
  | inl l ↦ l
  | inr g ↦ elim (eq-or-lt_of_le g) [
    | inl e ↦ absurd (lt_irrefl (amount m) (subst (λ (j : ℕ). amount m < amount j) e h))
    | inr k ↦ absurd (lt_irrefl (amount m) (lt_trans h (amount-lt n m k)))
  ]
]

amount-ltb : (m n : ℕ) → ltb (amount m) (amount n) ≡ ltb m n
amount-ltb m n = ltb-same (amount m) (amount n) m n (amount_back m n) (amount-lt m n)

amount-eqb : (m n : ℕ) → eqb (amount m) (amount n) ≡ eqb m n
amount-eqb m n = eqb_same (amount m) (amount n) m n one (ap amount)
  where
    one : amount m ≡ amount n → m ≡ n
    one e = elim (lt-or-le m n) [
      | inl l ↦ absurd (under_not (amount m) (amount n) (amount-lt m n l) e)
      | inr g ↦ elim (eq-or-lt_of_le g) [ inl k ↦ sym k | inr k ↦ absurd (under_not (amount n) (amount m) (amount-lt n m k) (sym e)) ]
    ]

-- so comparisons of amounts are those of the patterns
amount_some : (m : ℕ) → 0 < m → 0 < amount m
amount_some m h = subst (λ (n : ℕ). n < amount m) amount-zero (amount-lt 0 m h)

some_amount : (m : ℕ) → 0 < amount m → 0 < m
some_amount m h = amount_back 0 m (subst (λ (n : ℕ). n < amount m) (sym amount-zero) h)

amounts_some : (m n : ℕ) → ltb 0 (amount m + amount n) ≡ ltb 0 (m + n)
amounts_some m n = ltb-same 0 (amount m + amount n) 0 (m + n) back forth
  where
    forth : 0 < m + n → 0 < amount m + amount n
    forth h = elim (lt-or-le 0 m) [
      | inl l ↦ let g = amount_some m l in omega (arith, g)
      | inr l ↦ let g = amount_some n (let z : 0 < n = omega arith in z) in omega (arith, g)
    ]

    back : 0 < amount m + amount n → 0 < m + n
    back h = elim (lt-or-le 0 (amount m)) [
      | inl l ↦ let g = some_amount m l in omega (arith, g)
      | inr l ↦ let g = some_amount n (let z : 0 < amount n = omega (arith, h, l) in z) in omega (arith, g)
    ]

pub below_amounts : (s t : Bool) (m n : ℕ) → below s (amount m) t (amount n) ≡ below s m t n
below_amounts false false m n = amount-ltb m n
below_amounts false true m n = refl
below_amounts true false m n = amounts_some m n
below_amounts true true m n = amount-ltb n m

pub level_amounts : (s t : Bool) (m n : ℕ) → level s (amount m) t (amount n) ≡ level s m t n
level_amounts s t m n = (λ i. amount-eqb m n i && (beq s t || (ap (eqb (amount m)) (sym amount-zero) ∙ amount-eqb m 0) i))

-- ---- a pattern's float stands for its amount
finite_stands : (x : Float) (s : Bool) (a : ℕ) → HasValue x s a (2 ^ 1074) → a < beyond → Stands x s a
finite_stands nan s a v h = absurd v
finite_stands (inf t) s a v h = absurd v
finite_stands (fin t m e) s a v h = (v.0, v.1, h)

amount-most : (m : ℕ) → m < 0x7ff0_0000_0000_0000 → amount m < beyond
unfolding beyond amount
amount-most m h = mul-lt-pow-most (digits m) (shift m) (digits_lt m) (let z : shift m ≤ 2045 = omega arith in z)
  where
    mul-lt-pow-most : (q k : ℕ) → q < 2 ^ 53 → k ≤ 2045 → q * 2 ^ k < 2 ^ 2098
    mul-lt-pow-most q k h g = lt_of_lt_of_le (mul-lt-mul_of_pos_right h (pow_pos k)) (le_trans (le_of_eq (sym (pow-add 2 53 k))) (pow_mono (let z : 53 + k ≤ 2098 = omega arith in z)))

float_is : (s : Bool) (m : ℕ) → m < 0x7ff0_0000_0000_0000 → float (cond s (2 ^ 63) 0 + m) ≡ units binary64 s (digits m) (shift m)
float_is s m h =
    let z : shift m * 2 ^ 52 % 2 ^ 64 + digits m ≡ m = omega arith in
    ap (λ (n : ℕ). float (cond s (2 ^ 63) 0 + n)) (sym z)
    ∙ packed_is s (cond s (2 ^ 63) 0) (digits m) (shift m) refl (le_of_lt (digits_lt m)) (let y : shift m < 2046 = omega arith in y) (digits-ge m)

stands_finite : (s : Bool) (m : ℕ) → m < 0x7ff0_0000_0000_0000 → Stands (float (cond s (2 ^ 63) 0 + m)) s (amount m)
unfolding amount beyond
stands_finite s m h =
    subst (λ (x : Float). Stands x s (amount m)) (sym (float_is s m h))
    (finite_stands (units binary64 s (digits m) (shift m)) s (amount m) (units_val binary64 s (digits m) (shift m) (amount-most m h)) (amount-most m h))

stands_inf : (s : Bool) → Stands (float (cond s (2 ^ 63) 0 + 0x7ff0_0000_0000_0000)) s (amount 0x7ff0_0000_0000_0000)
unfolding amount beyond of_bits of_fields
stands_inf true = (refl, refl)
stands_inf false = (refl, refl)

pub stands : (s : Bool) (m : ℕ) → m ≤ 0x7ff0_0000_0000_0000 → Stands (float (cond s (2 ^ 63) 0 + m)) s (amount m)
stands s m h = elim (eq-or-lt_of_le h) [
  | inl e ↦ subst (λ (n : ℕ). Stands (float (cond s (2 ^ 63) 0 + n)) s (amount n)) (sym e) (stands_inf s)
  | inr l ↦ stands_finite s m l
]
