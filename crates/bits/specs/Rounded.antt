-- An exact number on its way to an f64, and the one rounding. Definitions only.
use Rattle.std.specs.Prelude.{◌≡◌, ℕ, ◌+◌, ◌*◌, ◌/◌, ◌%◌, ◌^◌, Bool, cond, nat_lt, Float}
use Rattle.std.specs.Float.{binary64}
use Rattle.std.specs.Float.Ieee.{round}

-- The digits of n from 2 ^ e on are w, and `more` says whether any below is set.
pub record Kept (n w e : ℕ) (more : Bool) : Type 0 where
  pub whole : n / 2 ^ e ≡ w
  pub rest : nat_lt 0 (n % 2 ^ e) ≡ more

-- w * 2 ^ e, or (w + 1/2) * 2 ^ e where there is more, in units of 2 ^ -2340, to the nearest f64, a tie to the even one.
-- (A product of two f64 is a whole number of 2 ^ -2148; 192 places more leave room to move its digits.)
unfoldable pub rounded_of : Bool → ℕ → Bool → ℕ → Float
unfolding round
rounded_of s w more e = round binary64 s ((2 * w + cond more 1 0) * 2 ^ e) (2 ^ 2341)
