-- An f64 is a whole number of units of 2 ^ -1074. Assumes nothing.
use Rattle.std.specs.Prelude.{◌≡◌, Bool, ◌&&◌, ℕ, zero, suc, ◌-◌, ◌*◌, ◌%◌, ◌^◌, ◌≤◌, ℤ, pos, negsuc, T, ltb, leb, eqb}
use Rattle.std.proofs.Common.{sym, ap, ◌∙◌, mul-one, zero-mul, mul_assoc, leb→le, pow-add}
use Rattle.std.specs.Float.{fin, binary64}
use Rattle.std.specs.Float.Ieee.{up, down, fits}
use Rattle.std.specs.Float.Ieee.Digits.{back}
use Rattle.std.specs.Float.Ieee.Fits.{and_l, and_r}
use Rattle.laws.specs.laws.Exact.{pow_back}

pub record Units (w : ℕ) (e : ℤ) : Type 0 where
  pub count : ℕ
  pub is : w * 2 ^ 1074 ≡ count * down e

pub in_units : (w : ℕ) (e : ℤ) → down e ≤ 2 ^ 1074 → Units w e
in_units w (pos k) h = record { count = w * 2 ^ 1074; is = sym (mul-one (w * 2 ^ 1074)) }
in_units w (negsuc k) h =
    record {
      count = w * 2 ^ (1074 - suc k);
      is = ap (λ (z : ℕ). w * z) (ap (λ (z : ℕ). 2 ^ z) (sym (back 1074 (suc k) (pow_back (suc k) 1074 h))) ∙ pow-add 2 (1074 - suc k) (suc k)) ∙ sym (mul_assoc w (2 ^ (1074 - suc k)) (2 ^ suc k));
    }

no_units : (e : ℤ) → Units (0 * up e) e
no_units e = record { count = 0; is = ap (λ (z : ℕ). z * 2 ^ 1074) (zero-mul (up e)) ∙ zero-mul (2 ^ 1074) ∙ sym (zero-mul (down e)) }

pub units_of_lem : (s : Bool) (m : ℕ) (e : ℤ) → T (fits binary64 (fin s m e)) → Units (m * up e) e
unfolding fits
units_of_lem s zero e h = no_units e
units_of_lem s (suc m) e h =
    let a = eqb (suc m % 2) 1 && ltb (suc m) (2 ^ 53) in
    let b = leb (down e) (2 ^ 1074) in
    in_units (suc m * up e) e (leb→le (down e) (2 ^ 1074) (and_r a b (and_l (a && b) (ltb (suc m * up e) (2 ^ 1024 * down e)) h)))
