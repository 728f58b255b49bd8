-- x = 2^k f with 3/4 ≤ f < 3/2: an f64 is a whole number of units of 2^-1074, `places` gives such a k, and no other k does. Assumes nothing.
use Rattle.std.specs.Prelude.{◌≡◌, Bool, true, false, not, cond, ◌&&◌, ℕ, suc, ◌+◌, ◌-◌, ◌*◌, ◌%◌, ◌^◌, ◌≤◌, ◌<◌, ℤ, T}
use Rattle.std.proofs.Common.{sym, ap, ◌∙◌, le_trans, lt_of_lt_of_le, le_of_eq, one-mul, mul_right_comm, mul-pos, zero-lt-suc, mul-le-mul_right, mul-lt-mul_of_pos_right, le-div_iff_mul-le, div-lt_iff_lt-mul, arith, nltb→le, leb→le, pow-add, pow_mono, pow_pos}
use Rattle.std.proofs.Math.Dec.{ltb, leb, eqb, ltb→lt}
use Rattle.std.specs.Float.{fin, binary64}
use Rattle.std.specs.Float.Ieee.{up, down, size, fits}
use Rattle.std.specs.Float.Ieee.Digits.{size-lt, size_reaches, size-le}
use Rattle.std.specs.Float.Ieee.Fits.{up_pos, down_pos, and_l, and_r}
use Rattle.laws.specs.laws.Digits.{size-gt}
use Rattle.logarithm.specs.Series.{units_of, places}

-- 3/4 ≤ N / 2^w < 3/2
pub record Middle (N w : ℕ) : Type 0 where
  pub least : 3 * 2 ^ w ≤ 4 * N
  pub most : 2 * N < 3 * 2 ^ w

pub places_middle : (N : ℕ) → 0 < N → Middle N (places N)
unfolding places
places_middle N h =
    let l = size N - 1 in
    let z : 0 < size N = size-gt N 0 h in
    let a : 2 ^ l ≤ N = size_reaches N l (omega arith) in
    let b : N < 2 * 2 ^ l = lt_of_lt_of_le (size-lt N) (le_of_eq (ap (λ (x : ℕ). 2 ^ x) (back (size N) z) ∙ pow-add 2 1 l)) in
    go l a b (ltb (2 * N) (3 * 2 ^ l)) (ltb→lt (2 * N) (3 * 2 ^ l)) (nltb→le (2 * N) (3 * 2 ^ l))
  where
    back : (z : ℕ) → 0 < z → z ≡ 1 + (z - 1)
    back z h = omega arith

    go : (l : ℕ) → 2 ^ l ≤ N → N < 2 * 2 ^ l → (t : Bool) → (T t → 2 * N < 3 * 2 ^ l) → (T (not t) → 3 * 2 ^ l ≤ 2 * N) → Middle N (cond t l (l + 1))
    go l a b true f g = record { least = (omega arith); most = f tt }
    go l a b false f g =
        let k : 3 * 2 ^ l ≤ 2 * N = g tt in
        let e : 2 ^ (l + 1) ≡ 2 ^ l * 2 = pow-add 2 l 1 in
        record { least = (omega arith); most = (omega arith) }

not_more : (N v w : ℕ) → Middle N v → Middle N w → v < w → ⊥
not_more N v w a b h =
    let e : 2 * 2 ^ v ≤ 2 ^ w = le_trans (le_of_eq (sym (pow-add 2 1 v))) (pow_mono {i = 1 + v} {j = w} (omega arith)) in
    let p = a.most in
    let q = b.least in
    omega arith

pub places_only : (N w : ℕ) → 0 < N → Middle N w → w ≡ places N
places_only N w h m =
    let p = places_middle N h in
    let x = not_more N w (places N) m p in
    let y = not_more N (places N) w p m in
    omega arith

-- at most as many as the number has binary digits
pub places-le : (N j : ℕ) → 0 < N → N < 2 ^ j → places N ≤ j
unfolding places
places-le N j h l =
    let s : size N ≤ j = size-le N j l in
    let z : 0 < size N = size-gt N 0 h in
    go (size N - 1) (omega arith) (ltb (2 * N) (3 * 2 ^ (size N - 1)))
  where
    go : (k : ℕ) → k + 1 ≤ j → (t : Bool) → cond t k (k + 1) ≤ j
    go k h true = omega arith
    go k h false = h

-- ---- x > 0 is N units, exactly
module _ (s : Bool) (m : ℕ) (e : ℤ) (f : T (fits binary64 (fin s (suc m) e))) where
  inside : (down e ≤ 2 ^ 1074) × (suc m * up e < 2 ^ 1024 * down e)
  unfolding fits
  inside =
      let P = eqb (suc m % 2) 1 in
      let Q = ltb (suc m) (2 ^ 53) in
      let R = leb (down e) (2 ^ 1074) in
      let Z = ltb (suc m * up e) (2 ^ 1024 * down e) in
      (leb→le (down e) (2 ^ 1074) (and_r (P && Q) R (and_l (P && Q && R) Z f)), ltb→lt (suc m * up e) (2 ^ 1024 * down e) (and_r (P && Q && R) Z f))

  pub units_pos : 0 < units_of (fin s (suc m) e)
  unfolding units_of
  units_pos =
      (le-div_iff_mul-le (down_pos e)).1
      (le_trans (le_of_eq (one-mul (down e))) (le_trans inside.0 (le_trans (le_of_eq (sym (one-mul (2 ^ 1074)))) (mul-le-mul_right (2 ^ 1074) (mul-pos (zero-lt-suc m) (up_pos e))))))

  pub units_lt : units_of (fin s (suc m) e) < 2 ^ 2098
  unfolding units_of
  units_lt = (div-lt_iff_lt-mul (down_pos e)).1 (lt_of_lt_of_le (mul-lt-mul_of_pos_right inside.1 (pow_pos 1074)) (le_of_eq (mul_right_comm (2 ^ 1024) (down e) (2 ^ 1074))))
