-- What the remainder's definition means: it is lib.Ieee's own `rem` for every two f64. Assumes nothing.
use Rattle.std.specs.Prelude.{◌≡◌, ℕ, zero, suc, ◌+◌, ◌-◌, ◌*◌, ◌/◌, ◌%◌, ◌^◌, ◌<◌, ◌≤◌, Bool, true, false, cond, T, ℤ, pos, negsuc, ◌==◌, ◌≢◌, refl, Float}
use Rattle.std.proofs.Common.{sym, ap, ◌∙◌, subst, lt_of_le_of_lt, lt_irrefl, mul-one, mul_assoc, mul_right_comm, mul-pos, mul-div_cancel, add-mul, div-add-mod', mod-lt, mul-lt-mul_of_pos_right, zero-lt-suc, zero-mul, arith, eqb→eq, lit<, pow-add, pow_pos}
use Rattle.std.proofs.Math.Arith.{digits_mod}
use Rattle.std.proofs.Math.Pow.{pow-lt}
use Rattle.std.specs.Float.{nan, inf, fin, binary64}
use Rattle.std.specs.Float.Ieee.{up, down, round, rem, fits}
use Rattle.std.specs.Float.Ieee.Exact.{HasValue}
use Rattle.std.specs.Float.Ieee.Fits.{up_pos, down_pos}
use Rattle.std.specs.Float.Ieee.Scale.{round_same}
use Rattle.laws.specs.Arithmetic.{◌%%◌}
use Rattle.laws.specs.laws.Digits.{pow_lt_back}
use Rattle.laws.specs.laws.Exact.{fits_bounds}
use Rattle.remainder.specs.Remainder.{units_of, remainder_of}

-- ---- whole numbers
pub mod_scaled : (a b c : ℕ) → 0 < b → 0 < c → a * c % (b * c) ≡ a % b * c
mod_scaled a b c B C =
    ap (λ (n : ℕ). n % (b * c))
    (ap (λ (n : ℕ). n * c) (sym (div-add-mod' a b)) ∙ add-mul (a / b * b) (a % b) c ∙ ap (λ (n : ℕ). n + a % b * c) (mul_assoc (a / b) b c))
    ∙ digits_mod (a / b) (mul-lt-mul_of_pos_right (mod-lt a B) C)

pub moved : (m i j : ℕ) → j ≤ i → m * 2 ^ i ≡ m * 2 ^ (i - j) * 2 ^ j
moved m i j h = ap (λ (n : ℕ). m * n) (ap (λ (n : ℕ). 2 ^ n) (let z : i ≡ (i - j) + j = omega arith in z) ∙ pow-add 2 (i - j) j) ∙ sym (mul_assoc m (2 ^ (i - j)) (2 ^ j))

-- ---- of values that are written as fractions with one denominator
pub units_are : (m : ℕ) (e : ℤ) (a : ℕ) → m * up e * 2 ^ 1074 ≡ a * down e → units_of m e ≡ a
unfolding units_of
units_are m e a h = ap (λ (n : ℕ). n / down e) h ∙ mul-div_cancel a (down_pos e)

no_zero : (d : ℤ) (b c : ℕ) → 0 < b → 0 * up d * c ≢ b * down d
no_zero d b c B h = lt_irrefl 0 (subst (λ (n : ℕ). 0 < n) (sym h ∙ ap (λ (n : ℕ). n * c) (zero-mul (up d)) ∙ zero-mul c) (mul-pos B (down_pos d)))

pub remainder_at : (x y : Float) (s t : Bool) (a b : ℕ) → 0 < b → HasValue x s a (2 ^ 1074) → HasValue y t b (2 ^ 1074) → remainder_of x y ≡ round binary64 s (a % b) (2 ^ 1074)
unfolding remainder_of
remainder_at (fin r m e) (fin u zero d) s t a b B hx hy = absurd (no_zero d b (2 ^ 1074) B hy.1)
remainder_at (fin r m e) (fin u (suc n) d) s t a b B hx hy =
    ap (λ (z : Bool). round binary64 z (units_of m e % units_of (suc n) d) (2 ^ 1074)) hx.0 ∙ (λ i. round binary64 s (units_are m e a hx.1 i % units_are (suc n) d b hy.1 i) (2 ^ 1074))
remainder_at nan y s t a b B hx hy = elim hx [ ]
remainder_at (inf _) y s t a b B hx hy = elim hx [ ]
remainder_at (fin r m e) nan s t a b B hx hy = elim hy [ ]
remainder_at (fin r m e) (inf _) s t a b B hx hy = elim hy [ ]

-- a divisor that is not zero
pub rem_some : (s : Bool) (m : ℕ) (e : ℤ) (t : Bool) (n : ℕ) (d : ℤ) → fin s m e %% fin t (suc n) d ≡ round binary64 s (m * up e * down d % (suc n * up d * down e)) (down e * down d)
unfolding rem
rem_some s m e t n d = go (suc n == 0) (eqb→eq (suc n) 0)
  where
    go : (b : Bool) → (T b → suc n ≡ 0) → cond b nan (round binary64 s (m * up e * down d % (suc n * up d * down e)) (down e * down d)) ≡ round binary64 s (m * up e * down d % (suc n * up d * down e)) (down e * down d)
    go true h = absurd (let e = h tt in let z : ⊥ = omega arith in z)
    go false h = refl

pub rem_at : (x y : Float) (s t : Bool) (a b c : ℕ) → 0 < b → 0 < c → HasValue x s a c → HasValue y t b c → x %% y ≡ round binary64 s (a % b) c
rem_at (fin r m e) (fin u zero d) s t a b c B C hx hy = absurd (no_zero d b c B hy.1)
rem_at (fin r m e) (fin u (suc n) d) s t a b c B C hx hy =
    rem_some r m e u n d
    ∙ (λ i. round binary64 (hx.0 i) (m * up e * down d % (suc n * up d * down e)) (down e * down d))
    ∙ round_same binary64 s (m * up e * down d % (suc n * up d * down e)) (down e * down d) (a % b) c (mul-pos (down_pos e) (down_pos d)) C same
  where
    D : ℕ
    D = down e * down d

    dividend : m * up e * down d * c ≡ a * D
    dividend = mul_right_comm (m * up e) (down d) c ∙ ap (λ (n : ℕ). n * down d) hx.1 ∙ mul_assoc a (down e) (down d)

    divisor : suc n * up d * down e * c ≡ b * D
    divisor = mul_right_comm (suc n * up d) (down e) c ∙ ap (λ (n : ℕ). n * down e) hy.1 ∙ mul_right_comm b (down d) (down e) ∙ mul_assoc b (down e) (down d)

    same : m * up e * down d % (suc n * up d * down e) * c ≡ a % b * D
    same =
        sym (mod_scaled (m * up e * down d) (suc n * up d * down e) c (mul-pos (mul-pos (zero-lt-suc n) (up_pos d)) (down_pos e)) C)
        ∙ (λ i. dividend i % divisor i)
        ∙ mod_scaled a b D B (mul-pos (down_pos e) (down_pos d))
rem_at nan y s t a b c B C hx hy = elim hx [ ]
rem_at (inf _) y s t a b c B C hx hy = elim hx [ ]
rem_at (fin r m e) nan s t a b c B C hx hy = elim hy [ ]
rem_at (fin r m e) (inf _) s t a b c B C hx hy = elim hy [ ]

-- ---- every f64 is a whole number of units
pub record Written (m : ℕ) (e : ℤ) : Type 0 where
  pub place : ℕ
  pub is : m * up e * 2 ^ 1074 ≡ m * 2 ^ place * down e
  pub digits : m < 2 ^ 53

pub none : (e : ℤ) → 0 * up e * 2 ^ 1074 ≡ 0 * 2 ^ 0 * down e
none e = ap (λ (n : ℕ). n * 2 ^ 1074) (zero-mul (up e)) ∙ zero-mul (2 ^ 1074) ∙ sym (zero-mul (down e))

whole : (l m k : ℕ) → suc k ≤ l → m * 1 * 2 ^ l ≡ m * 2 ^ (l - suc k) * 2 ^ suc k
whole l m k h =
    ap (λ (n : ℕ). n * 2 ^ l) (mul-one m)
    ∙ ap (λ (n : ℕ). m * n) (ap (λ (n : ℕ). 2 ^ n) (let z : l ≡ (l - suc k) + suc k = omega arith in z) ∙ pow-add 2 (l - suc k) (suc k))
    ∙ sym (mul_assoc m (2 ^ (l - suc k)) (2 ^ suc k))

pub written : (s : Bool) (m : ℕ) (e : ℤ) → T (fits binary64 (fin s m e)) → Written m e
written s zero e f = record { place = 0; is = none e; digits = pow_pos 53 }
written s (suc m) (pos k) f = record {
  place = k + 1074;
  is = mul_assoc (suc m) (2 ^ k) (2 ^ 1074) ∙ ap (λ (n : ℕ). suc m * n) (sym (pow-add 2 k 1074)) ∙ sym (mul-one (suc m * 2 ^ (k + 1074)));
  digits = (fits_bounds binary64 s m (pos k) f).0;
}
written s (suc m) (negsuc k) f =
    let b = fits_bounds binary64 s m (negsuc k) f in
    record { place = 1074 - suc k; is = whole 1074 (suc m) k (below (suc k) (pow_lt_back (suc k) 1075 (lt_of_le_of_lt b.1 (pow-lt {i = 1074} {j = 1075} (lit< tt))))); digits = b.0 }
  where
    below : (k : ℕ) → k < 1075 → k ≤ 1074
    below k h = omega arith

pub units-written : (m : ℕ) (e : ℤ) (w : Written m e) → units_of m e ≡ m * 2 ^ w.place
units-written m e w = units_are m e (m * 2 ^ w.place) w.is

pub has_units : (s : Bool) (m : ℕ) (e : ℤ) → T (fits binary64 (fin s m e)) → HasValue (fin s m e) s (units_of m e) (2 ^ 1074)
has_units s m e f = let w = written s m e f in (refl, w.is ∙ ap (λ (n : ℕ). n * down e) (sym (units-written m e w)))

pub some_units : (s : Bool) (n : ℕ) (d : ℤ) → T (fits binary64 (fin s (suc n) d)) → 0 < units_of (suc n) d
some_units s n d f = let w = written s (suc n) d f in subst (λ (u : ℕ). 0 < u) (sym (units-written (suc n) d w)) (mul-pos (zero-lt-suc n) (pow_pos w.place))

-- ---- the law: lib.Ieee's own remainder
pub remainder_is : (x y : Float) → T (fits binary64 x) → T (fits binary64 y) → remainder_of x y ≡ x %% y
unfolding remainder_of rem
remainder_is nan y f g = refl
remainder_is (inf s) y f g = refl
remainder_is (fin s m e) nan f g = refl
remainder_is (fin s m e) (inf t) f g = refl
remainder_is (fin s m e) (fin t zero d) f g = refl
remainder_is (fin s m e) (fin t (suc n) d) f g =
    let B = some_units t n d g in
    let hx = has_units s m e f in
    let hy = has_units t (suc n) d g in
    remainder_at (fin s m e) (fin t (suc n) d) s t (units_of m e) (units_of (suc n) d) B hx hy
    ∙ sym (rem_at (fin s m e) (fin t (suc n) d) s t (units_of m e) (units_of (suc n) d) (2 ^ 1074) B (pow_pos 1074) hx hy)
