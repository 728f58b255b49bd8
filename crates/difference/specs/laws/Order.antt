-- The places have the order of the values: the line is that of the f64s, and neighbours on it are one step apart. Assumes nothing.
use Rattle.std.specs.Prelude.{◌≡◌, refl, Bool, true, false, cond, ◌&&◌, ℕ, zero, suc, ◌+◌, ◌-◌, ◌%◌, ◌^◌, ◌≤◌, ◌<◌, ltb, leb, eqb, ℤ, pos, negsuc, neg_ℤ, nat_abs, ◌-ℤ◌}
use Rattle.std.proofs.Common.{ap, ◌∙◌, sym, subst, inl, inr, arith, lt-ltb, le-ltb, le-leb, ne_eqb, ltb-true, ltb-false}
use Rattle.std.specs.Bool.{beq}
use Rattle.std.proofs.lemmas.Bool.{lt-leb}
use Rattle.std.proofs.Math.Dec.{eqb-suc-zero}
use Rattle.std.proofs.Math.IntN.{suc_ℤ}
use Rattle.std.specs.Int.Signed.{lt_z}
use Rattle.std.specs.Float.Ieee.{below, level, lt, eq, is_nan}
use Rattle.std.specs.Float.{binary64}
use Rattle.std.specs.Float.Ieee.Bits.{nan_bits_is, nan_bits_above}
use Rattle.std.specs.Float.Ieee.Scale.{finite}
use Rattle.laws.specs.Arithmetic.{float}
use Rattle.laws.specs.laws.Flags.{lt-or-le}
use Rattle.laws.specs.laws.Sum.{ltb-same}
use Rattle.difference.specs.Steps.{place_of, steps_of}
use Rattle.difference.specs.laws.Whole.{signed, size-neg, size_next, before_next, next_is, next_size}
use Rattle.difference.specs.laws.Patterns.{finite_pattern}
use Rattle.difference.specs.laws.Steps.{place-plus, place_minus, steps_at}
use Rattle.difference.specs.laws.Values.{eqb_same, Stands, lt_stands, eq_stands}
use Rattle.difference.specs.laws.Amounts.{amount, below_amounts, level_amounts, stands}

-- ---- a pattern's sign and what is left of it
abbrev side : ℕ → Bool
side p = leb (2 ^ 63) p

abbrev height : ℕ → ℕ
height p = p % 2 ^ 63

halved : (p : ℕ) → p < 2 ^ 64 → cond (side p) (2 ^ 63) 0 + height p ≡ p
halved p h = elim (lt-or-le p (2 ^ 63)) [
  | inl l ↦ rw (lt-leb (2 ^ 63) p l) (let z : 0 + p % 2 ^ 63 ≡ p = omega arith in z)
  | inr g ↦ rw (le-leb (2 ^ 63) p g) (let z : 2 ^ 63 + p % 2 ^ 63 ≡ p = omega arith in z)
]

pub place_is : (p : ℕ) → p < 2 ^ 64 → place_of p ≡ signed (side p) (height p)
place_is p h = elim (lt-or-le p (2 ^ 63)) [
  | inl l ↦ rw (lt-leb (2 ^ 63) p l) (place-plus p l ∙ ap pos (let z : p ≡ p % 2 ^ 63 = omega arith in z))
  | inr g ↦ rw (le-leb (2 ^ 63) p g) (place_minus p g ∙ ap (λ (n : ℕ). neg_ℤ (pos n)) (let z : p - 2 ^ 63 ≡ p % 2 ^ 63 = omega arith in z))
]

height-most : (p : ℕ) → is_nan (float p) ≡ false → height p ≤ 0x7ff0_0000_0000_0000
height-most p h = ltb-false 0x7ff0_0000_0000_0000 (p % 2 ^ 63) (sym (nan_bits_above binary64 p) ∙ nan_bits_is binary64 p ∙ h)

pattern_stands : (p : ℕ) → p < 2 ^ 64 → is_nan (float p) ≡ false → Stands (float p) (side p) (amount (height p))
pattern_stands p h n = subst (λ (q : ℕ). Stands (float q) (side p) (amount (height p))) (halved p h) (stands (side p) (height p) (height-most p n))

-- ---- the order of the values is that of the places
below-places : (s t : Bool) (m n : ℕ) → below s m t n ≡ lt_z (signed s m) (signed t n)
below-places false false m n = refl
below-places false true m zero = sym (le-ltb m 0 (let z : 0 ≤ m = omega arith in z))
below-places false true m (suc n) = refl
below-places true false zero n = ap (ltb 0) (let z : 0 + n ≡ n = omega arith in z)
below-places true false (suc m) n = lt-ltb 0 (suc m + n) (let z : 0 < suc m + n = omega arith in z)
below-places true true zero zero = refl
below-places true true zero (suc n) = le-ltb (suc n) 0 (let z : 0 ≤ suc n = omega arith in z)
below-places true true (suc m) zero = lt-ltb 0 (suc m) (let z : 0 < suc m = omega arith in z)
below-places true true (suc m) (suc n) = ltb-same (suc n) (suc m) n m (λ h. let z : n < m = omega arith in z) (λ h. let z : suc n < suc m = omega arith in z)

-- a pattern that is no NaN's
pub record Number (p : ℕ) : Type 0 where
  pub fits : p < 2 ^ 64
  pub real : is_nan (float p) ≡ false

pub ordered : (p q : ℕ) → Number p → Number q → lt (float p) (float q) ≡ lt_z (place_of p) (place_of q)
ordered p q P Q =
    lt_stands (float p) (float q) (side p) (side q) (amount (height p)) (amount (height q)) (pattern_stands p P.fits P.real) (pattern_stands q Q.fits Q.real)
    ∙ below_amounts (side p) (side q) (height p) (height q)
    ∙ below-places (side p) (side q) (height p) (height q)
    ∙ sym (λ i. lt_z (place_is p P.fits i) (place_is q Q.fits i))

-- ---- no step apart exactly where the values are equal
right : (b : Bool) → (b && true) ≡ b
right true = refl
right false = refl

like : (m n : ℕ) → (eqb m n && true) ≡ eqb ((m - n) + (n - m)) 0
like m n = right (eqb m n) ∙ eqb_same m n ((m - n) + (n - m)) 0 (λ e. let z : (m - n) + (n - m) ≡ 0 = omega arith in z) (λ e. let z : m ≡ n = omega arith in z)

unlike : (m n : ℕ) → (eqb m n && eqb m 0) ≡ eqb (m + n) 0
unlike zero n = right (eqb 0 n) ∙ eqb_same 0 n (0 + n) 0 (λ e. let z : 0 + n ≡ 0 = omega arith in z) (λ e. let z : 0 ≡ n = omega arith in z)
unlike (suc m) n = ap (λ (b : Bool). eqb (suc m) n && b) (eqb-suc-zero m) ∙ second (eqb (suc m) n) ∙ sym (ne_eqb (suc m + n) 0 (λ e. let z : ⊥ = omega arith in z))
  where
    second : (b : Bool) → (b && false) ≡ false
    second true = refl
    second false = refl

level_steps : (s t : Bool) (m n : ℕ) → level s m t n ≡ eqb (cond (beq s t) ((m - n) + (n - m)) (m + n)) 0
level_steps false false m n = like m n
level_steps true true m n = like m n
level_steps false true m n = unlike m n
level_steps true false m n = unlike m n

pub equal_values : (p q : ℕ) → Number p → Number q → eq (float p) (float q) ≡ eqb (steps_of p q) 0
equal_values p q P Q =
    eq_stands (float p) (float q) (side p) (side q) (amount (height p)) (amount (height q)) (pattern_stands p P.fits P.real) (pattern_stands q Q.fits Q.real)
    ∙ level_amounts (side p) (side q) (height p) (height q)
    ∙ level_steps (side p) (side q) (height p) (height q)
    ∙ sym (ap (λ (n : ℕ). eqb n 0) (steps_at p q (side p) (side q) (height p) (height q) (place_is p P.fits) (place_is q Q.fits)))

-- ---- nothing between: one step
size-signed : (s : Bool) (m : ℕ) → nat_abs (signed s m) ≡ m
size-signed true m = size-neg (pos m)
size-signed false m = refl

place-most : (p : ℕ) → Number p → nat_abs (place_of p) ≤ 0x7ff0_0000_0000_0000
place-most p P = subst (λ (n : ℕ). n ≤ 0x7ff0_0000_0000_0000) (sym (ap nat_abs (place_is p P.fits) ∙ size-signed (side p) (height p))) (height-most p P.real)

number_of : (p : ℕ) → p < 2 ^ 64 → height p ≤ 0x7ff0_0000_0000_0000 → Number p
number_of p h g = record { fits = h; real = sym (nan_bits_is binary64 p) ∙ nan_bits_above binary64 p ∙ le-ltb 0x7ff0_0000_0000_0000 (p % 2 ^ 63) g }

-- the pattern at a place
pattern_at : ℤ → ℕ
pattern_at (pos n) = n
pattern_at (negsuc n) = 2 ^ 63 + suc n

at_place : (z : ℤ) → nat_abs z ≤ 0x7ff0_0000_0000_0000 → Number (pattern_at z) × (place_of (pattern_at z) ≡ z)
unfolding pattern_at
at_place (pos n) h = (number_of n (omega arith) (omega arith), place-plus n (omega arith))
at_place (negsuc n) h =
    (number_of (2 ^ 63 + suc n) (omega arith) (omega arith), place_minus (2 ^ 63 + suc n) (omega arith) ∙ ap (λ (k : ℕ). neg_ℤ (pos k)) (let z : 2 ^ 63 + suc n - 2 ^ 63 ≡ suc n = omega arith in z))

pub neighbours : (p q : ℕ) → Number p → Number q → lt (float p) (float q) ≡ true → ((r : ℕ) → Number r → lt (float p) (float r) ≡ true → lt (float r) (float q) ≡ false) → steps_of p q ≡ 1
unfolding steps_of
neighbours p q P Q l none =
    let x = place_of p in
    let y = place_of q in
    let h : lt_z x y ≡ true = sym (ordered p q P Q) ∙ l in
    let r = at_place (suc_ℤ x) (next_size x y 0x7ff0_0000_0000_0000 h (place-most p P) (place-most q Q)) in
    let z = pattern_at (suc_ℤ x) in
    let a : lt (float p) (float z) ≡ true = ordered p z P r.0 ∙ ap (lt_z x) r.1 ∙ before_next x in
    let b : lt_z (suc_ℤ x) y ≡ false = ap (λ (w : ℤ). lt_z w y) (sym r.1) ∙ sym (ordered z q r.0 Q) ∙ none z r.0 a in
    ap (λ (w : ℤ). nat_abs (x -ℤ w)) (next_is x y h b) ∙ size_next x

-- ---- a u64 holds the steps between any two finite ones
finite_height : (p : ℕ) → finite (float p) ≡ true → height p < 0x7ff0_0000_0000_0000
finite_height p h = ltb-true (p % 2 ^ 63) 0x7ff0_0000_0000_0000 (sym (finite_pattern p) ∙ h)

pub steps_most : (p q : ℕ) → p < 2 ^ 64 → q < 2 ^ 64 → finite (float p) ≡ true → finite (float q) ≡ true → steps_of p q ≤ 18437736874454810622
steps_most p q P Q f g =
    subst (λ (n : ℕ). n ≤ 18437736874454810622) (sym (steps_at p q (side p) (side q) (height p) (height q) (place_is p P) (place_is q Q)))
    (either (beq (side p) (side q)) (height p) (height q) (finite_height p f) (finite_height q g))
  where
    either : (b : Bool) (m n : ℕ) → m < 0x7ff0_0000_0000_0000 → n < 0x7ff0_0000_0000_0000 → cond b ((m - n) + (n - m)) (m + n) ≤ 18437736874454810622
    either true m n h k = omega arith
    either false m n h k = omega arith
