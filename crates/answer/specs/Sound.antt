-- What every function's answer is, for every argument (01: "NaN is never handed out"). Definitions only.
use Rattle.std.specs.Prelude.{◌≡◌, true, false, ◌≤◌, T, Result, Ok, Err, Float}
use Rattle.std.specs.Float.{binary64}
use Rattle.std.specs.Float.Ieee.{is_nan, fits}
use Rattle.std.specs.Float.Ieee.Scale.{finite}
use Rattle.answer.specs.Numbers.{number, stored}
use Rattle.answer.specs.declared.Answer.{Answer}
use Rattle.answer.specs.declared.Answer.TheVariants.{One, Pair, Infinite}
use Rattle.answer.specs.declared.Refusal.{Refusal}

-- a finite f64
pub record Number (x : Float) : Type 0 where
  pub bounded : T (finite x)
  pub fit : T (fits binary64 x)

-- an f64 that is no NaN
pub record Value (x : Float) : Type 0 where
  pub number : is_nan x ≡ false
  pub fit : T (fits binary64 x)

-- one finite value, a pair without NaN, an infinity, or a refusal that a row may store
unfoldable pub Sound : Result Answer Refusal → Type 0
Sound (Ok (One x)) = Number x
Sound (Ok (Pair x y)) = Value x × Value y
Sound (Ok (Infinite s)) = T true
Sound (Err r) = (1 ≤ number r) × T (stored (number r))
