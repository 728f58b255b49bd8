-- What a finite f64 is made of (IEEE 754-2019, 3.3). Definitions only.
use Rattle.std.specs.Prelude.{◌≡◌, ℕ, ◌*◌, ◌^◌, ◌<◌, ◌≤◌, Bool, true, false, Float}
use Rattle.std.specs.Float.Ieee.Exact.{HasValue}
use Rattle.std.specs.Float.Ieee.Scale.{finite}

-- x is sig * 2 ^ exp smallest values, with its sign. Where the exponent is not the lowest the leading one of 53 digits is set.
pub record Decoded (x : Float) (negative : Bool) (sig exp : ℕ) : Type 0 where
  pub value : HasValue x negative (sig * 2 ^ exp) (2 ^ 1074)
  pub digits : sig < 2 ^ 53
  pub scale : exp ≤ 2045
  pub lead : 0 < exp → 2 ^ 52 ≤ sig

-- the parts of any x: those of a finite one, and nothing of another
pub record PartsOf (x : Float) (is_finite negative : Bool) (sig exp : ℕ) : Type 0 where
  pub kind : is_finite ≡ finite x
  pub decoded : finite x ≡ true → Decoded x negative sig exp
  pub nothing : finite x ≡ false → (negative ≡ false) × (sig ≡ 0) × (exp ≡ 0)
