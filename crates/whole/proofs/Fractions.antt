-- The shifts of `round`, and magnitude by its bits. Assumes nothing.
use mathlib.Core.Path.{◌≡◌, refl, sym, ap, ◌∙◌, subst}
use mathlib.Core.Bool.{Bool, true, false, not, cond}
use Prim.Native.Nat.{ℕ, ◌+◌, ◌-◌, ◌*◌, ◌/◌, ◌%◌, ◌^◌, ◌≤◌, ◌<◌}
use native.Mathlib.Nat.{le_trans, le_of_eq, zero-add, add_assoc, mul-le-mul_left, mul-div-mul_left, div-eq_of_lt, mod-eq_of_lt, div-mul-le_self, add-mul-mod_self_left}
use native.Mathlib.Omega.{arith}
use lib.Bits.{bit_and, and_mask}
use lib.Dec.{T, lit<, lit≤}
use lib.IntN.{ℤ}
use lib.Pow.{pow-add, pow_mono}
use lib.Ieee.{Float, nan, inf, fin, binary64, up, down, fits, neg, is_nan, to_bits, of_bits, hid, nan_bits, size}
use lib.Ieee.Bits.{of_bits-to_bits, to_bits-lt, nan_bits_is}
use lib.Ieee.Fits.{neg-fits}
use Rattle.laws.specs.laws.Digits.{one_shl}
use Rattle.whole.specs.Whole.{magnitude_of, half_up}

-- ---- w / 2 ^ s for a w of 53 digits
pub half-far : (w s : ℕ) → w < 2 ^ 53 → 55 ≤ s → 0 ≡ half_up w (2 ^ s)
unfolding half_up
half-far w s h l = sym (div-eq_of_lt (lt w (2 ^ s) (pow_mono {i = 54} (le_trans (lit≤ tt) l)) h))
  where
    lt : (w c : ℕ) → 2 ^ 54 ≤ c → w < 2 ^ 53 → 2 * w + c < 2 * c
    lt w c b d = omega arith

half-near : (w s : ℕ) → 0 < s → (w + 2 ^ (s - 1)) / 2 ^ s ≡ half_up w (2 ^ s)
unfolding half_up
half-near w s h =
    let e : 2 ^ s ≡ 2 ^ (s - 1) * 2 = ap (λ (z : ℕ). 2 ^ z) (let z : s ≡ s - 1 + 1 = omega arith in z) ∙ pow-add 2 (s - 1) 1 in
    sym (ap (λ (z : ℕ). z / (2 * 2 ^ s)) (join w (2 ^ (s - 1)) (2 ^ s) e) ∙ mul-div-mul_left (w + 2 ^ (s - 1)) (2 ^ s) (lit< tt))
  where
    join : (w p c : ℕ) → c ≡ p * 2 → 2 * w + c ≡ 2 * (w + p)
    join w p c e = omega arith

one-half : (s : ℕ) → s < 55 → 1 * 2 ^ (s - 1) % 2 ^ 64 ≡ 2 ^ (s - 1)
one-half s h = one_shl (s - 1) (let z : s - 1 < 64 = omega arith in z)

half_lt : (s : ℕ) → s < 55 → 2 ^ (s - 1) ≤ 2 ^ 53
half_lt s h = pow_mono (let z : s - 1 ≤ 53 = omega arith in z)

pub half-fits : (w s : ℕ) → w < 2 ^ 53 → s < 55 → w + 1 * 2 ^ (s - 1) % 2 ^ 64 < 2 ^ 64
half-fits w s h l = let e = one-half s l in let p = half_lt s l in omega arith

pub half-shift : (w s : ℕ) → w < 2 ^ 53 → 0 < s → s < 55 → ((w + 1 * 2 ^ (s - 1) % 2 ^ 64) / 2 ^ s ≡ half_up w (2 ^ s)) × ((w + 1 * 2 ^ (s - 1) % 2 ^ 64) / 2 ^ s ≤ 2 ^ 53)
half-shift w s h p l =
    let e : (w + 1 * 2 ^ (s - 1) % 2 ^ 64) / 2 ^ s ≡ (w + 2 ^ (s - 1)) / 2 ^ s = ap (λ (z : ℕ). (w + z) / 2 ^ s) (one-half s l) in
    (e ∙ half-near w s p, le_trans (le_of_eq e) (go ((w + 2 ^ (s - 1)) / 2 ^ s) w (2 ^ (s - 1)) (2 ^ s) h (half_lt s l) (pow_mono {i = 1} p) (div-mul-le_self (w + 2 ^ (s - 1)) (2 ^ s))))
  where
    go : (n w p c : ℕ) → w < 2 ^ 53 → p ≤ 2 ^ 53 → 2 ≤ c → n * c ≤ w + p → n ≤ 2 ^ 53
    go n w p c a b d e = let m : n * 2 ≤ n * c = mul-le-mul_left n d in omega arith

-- ---- the sign's bit taken off
wrap : (t r : ℕ) → r < t → (t + r) % t ≡ r
wrap t r h = ap (λ (z : ℕ). z % t) (let z : t + r ≡ r + t * 1 = omega arith in z) ∙ add-mul-mod_self_left r t 1 ∙ mod-eq_of_lt h

-- the pattern of n smallest values, without a sign
abbrev pattern : ℕ → ℕ
pattern n = (size n - 53) * hid binary64 + n / 2 ^ (size n - 53)

unsigned : (s : Bool) (n : ℕ) → 2 ^ 63 + pattern n < 2 * 2 ^ 63 → (cond s (2 ^ 63) 0 + (size n - 53) * hid binary64 + n / 2 ^ (size n - 53)) % 2 ^ 63 ≡ 0 + (size n - 53) * hid binary64 + n / 2 ^ (size n - 53)
unsigned s n h =
    ap (λ (z : ℕ). z % 2 ^ 63) (add_assoc (cond s (2 ^ 63) 0) ((size n - 53) * hid binary64) (n / 2 ^ (size n - 53)))
    ∙ go s (pattern n) (let z : pattern n < 2 ^ 63 = under' (2 ^ 63) (pattern n) h in z)
    ∙ ap (λ (z : ℕ). z + n / 2 ^ (size n - 53)) (sym (zero-add ((size n - 53) * hid binary64)))
  where
    under' : (t r : ℕ) → t + r < 2 * t → r < t
    under' t r h = omega arith

    go : (s : Bool) (r : ℕ) → r < 2 ^ 63 → (cond s (2 ^ 63) 0 + r) % 2 ^ 63 ≡ r
    go true r h = wrap (2 ^ 63) r h
    go false r h = ap (λ (z : ℕ). z % 2 ^ 63) (zero-add r) ∙ mod-eq_of_lt h

fits_both : (s : Bool) (m : ℕ) (e : ℤ) → T (fits binary64 (fin s m e)) → T (fits binary64 (fin false m e)) × T (fits binary64 (fin true m e))
unfolding neg
fits_both true m e h = (neg-fits binary64 (fin true m e) h, h)
fits_both false m e h = (h, neg-fits binary64 (fin false m e) h)

magnitude_fits : (x : Float) → T (fits binary64 x) → T (fits binary64 (magnitude_of x))
unfolding magnitude_of fits
magnitude_fits nan h = tt
magnitude_fits (inf s) h = tt
magnitude_fits (fin s m e) h = (fits_both s m e h).0

magnitude_bits : (x : Float) → T (fits binary64 x) → T (not (is_nan x)) → to_bits binary64 x % 2 ^ 63 ≡ to_bits binary64 (magnitude_of x)
unfolding magnitude_of to_bits is_nan
magnitude_bits nan h n = absurd n
magnitude_bits (inf true) h n = refl
magnitude_bits (inf false) h n = refl
magnitude_bits (fin s m e) h n =
    let k = m * up e * 2 ^ 1074 / down e in
    let b : 2 ^ 63 + (size k - 53) * hid binary64 + k / 2 ^ (size k - 53) < 2 * 2 ^ 63 = to_bits-lt binary64 (fin true m e) (fits_both s m e h).1 in
    unsigned s k (subst (λ (z : ℕ). z < 2 * 2 ^ 63) (add_assoc (2 ^ 63) ((size k - 53) * hid binary64) (k / 2 ^ (size k - 53))) b)

pub magnitude_masked : (x : Float) → T (fits binary64 x) → T (not (is_nan x)) → of_bits binary64 (bit_and (to_bits binary64 x) 0x7fff_ffff_ffff_ffff) ≡ magnitude_of x
magnitude_masked x h n = ap (of_bits binary64) (and_mask (to_bits binary64 x) 63 ∙ magnitude_bits x h n) ∙ of_bits-to_bits binary64 (magnitude_of x) (magnitude_fits x h)

magnitude_no_nan : (x : Float) → T (not (is_nan x)) → T (not (is_nan (magnitude_of x)))
unfolding magnitude_of is_nan
magnitude_no_nan nan n = absurd n
magnitude_no_nan (inf s) n = tt
magnitude_no_nan (fin s m e) n = tt

pub masked_no_nan : (x : Float) → T (fits binary64 x) → T (not (is_nan x)) → T (not (nan_bits binary64 (bit_and (to_bits binary64 x) 0x7fff_ffff_ffff_ffff)))
masked_no_nan x h n =
    subst (λ (b : Bool). T (not b)) (sym (nan_bits_is binary64 (bit_and (to_bits binary64 x) 0x7fff_ffff_ffff_ffff)))
    (subst (λ (y : Float). T (not (is_nan y))) (sym (magnitude_masked x h n)) (magnitude_no_nan x n))

pub magnitude_nan : (x : Float) → x ≡ nan → x ≡ magnitude_of x
unfolding magnitude_of
magnitude_nan x e = e ∙ sym (ap magnitude_of e)
