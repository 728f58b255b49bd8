-- The remainder of two f64 is exact: what is left has no more digits than either. Assumes nothing.
use Rattle.std.specs.Prelude.{◌≡◌, Bool, ◌⊎◌, ℕ, zero, suc, ◌-◌, ◌*◌, ◌%◌, ◌^◌, ◌≤◌, ◌<◌, T, ℤ, Float}
use Rattle.std.proofs.Common.{sym, ap, ◌∙◌, subst, inl, inr, le_of_eq, le_of_lt, lt_trans, lt_of_le_of_lt, lt_of_lt_of_le, lt_of_mul-lt-mul_right, mul_right_comm, mul-pos, mod-lt, mul-lt-mul_of_pos_right, zero-lt-suc, pow-add, pow_pos}
use Rattle.std.proofs.Math.Nat.{mod-le}
use Rattle.std.specs.Float.{fin, binary64}
use Rattle.std.specs.Float.Ieee.{down, fits}
use Rattle.std.specs.Float.Ieee.Exact.{HasValue, round_exact}
use Rattle.laws.specs.laws.Exact.{fits_bounds}
use Rattle.laws.specs.laws.Flags.{lt-or-le}
use Rattle.remainder.specs.Remainder.{units_of, remainder_of}
use Rattle.remainder.specs.laws.Remainder.{mod_scaled, moved, units_are, none, written, units-written, remainder_at, has_units, some_units}

record Left (m i n j : ℕ) : Type 0 where
  digits : ℕ
  place : ℕ
  is : m * 2 ^ i % (n * 2 ^ j) ≡ digits * 2 ^ place
  few : digits < 2 ^ 53

left : (m i n j : ℕ) → m < 2 ^ 53 → n < 2 ^ 53 → 0 < n → Left m i n j
left m i n j a b c = go (lt-or-le i j)
  where
    go : (i < j) ⊎ (j ≤ i) → Left m i n j
    go (inl h) = record {
      digits = m % (n * 2 ^ (j - i));
      place = i;
      is = ap (λ (y : ℕ). m * 2 ^ i % y) (moved n j i (le_of_lt h)) ∙ mod_scaled m (n * 2 ^ (j - i)) (2 ^ i) (mul-pos c (pow_pos (j - i))) (pow_pos i);
      few = lt_of_le_of_lt (mod-le m (n * 2 ^ (j - i))) a;
    }
    go (inr h) = record {
      digits = m * 2 ^ (i - j) % n;
      place = j;
      is = ap (λ (x : ℕ). x % (n * 2 ^ j)) (moved m i j h) ∙ mod_scaled (m * 2 ^ (i - j)) n (2 ^ j) c (pow_pos j);
      few = lt_trans (mod-lt (m * 2 ^ (i - j)) c) b;
    }

in_range : (s : Bool) (m : ℕ) (e : ℤ) → T (fits binary64 (fin s m e)) → units_of m e < 2 ^ 2098
in_range s zero e f = lt_of_le_of_lt (le_of_eq (units_are 0 e 0 (none e))) (pow_pos 2098)
in_range s (suc m) e f =
    lt_of_mul-lt-mul_right (down e)
    (lt_of_le_of_lt (le_of_eq (sym (has_units s (suc m) e f).1))
    (lt_of_lt_of_le (mul-lt-mul_of_pos_right (fits_bounds binary64 s m e f).2 (pow_pos 1074)) (le_of_eq (mul_right_comm (2 ^ 1024) (down e) (2 ^ 1074) ∙ ap (λ (n : ℕ). n * down e) (sym (pow-add 2 1024 1074))))))

pub remainder_exact : (s : Bool) (m : ℕ) (e : ℤ) (t : Bool) (n : ℕ) (d : ℤ) → T (fits binary64 (fin s m e)) → T (fits binary64 (fin t (suc n) d))
    → HasValue (remainder_of (fin s m e) (fin t (suc n) d)) s (units_of m e % units_of (suc n) d) (2 ^ 1074)
remainder_exact s m e t n d f g =
    let v = written s m e f in
    let w = written t (suc n) d g in
    let l = left m v.place (suc n) w.place v.digits w.digits (zero-lt-suc n) in
    let rest : units_of m e % units_of (suc n) d ≡ l.digits * 2 ^ l.place = (λ i. units-written m e v i % units-written (suc n) d w i) ∙ l.is in
    subst (λ (r : Float). HasValue r s (units_of m e % units_of (suc n) d) (2 ^ 1074))
    (sym (remainder_at (fin s m e) (fin t (suc n) d) s t (units_of m e) (units_of (suc n) d) (some_units t n d g) (has_units s m e f) (has_units t (suc n) d g)))
    (round_exact binary64 s (units_of m e % units_of (suc n) d) (2 ^ 1074) l.digits l.place (pow_pos 1074) l.few
    (lt_of_le_of_lt (le_of_eq (sym rest)) (lt_of_le_of_lt (mod-le (units_of m e) (units_of (suc n) d)) (in_range s m e f)))
    (ap (λ (x : ℕ). x * 2 ^ 1074) rest))
