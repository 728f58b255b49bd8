-- What a function to whole numbers picks of a value's parts, with its sign; below 2 ^ 52 there is a fraction. Assumes nothing.
use Rattle.std.specs.Prelude.{◌≡◌, Bool, true, false, ◌&&◌, ℕ, ◌-◌, ◌^◌, ◌<◌, ltb, pos, Float}
use Rattle.std.proofs.Common.{◌∙◌, arith}
use Rattle.std.specs.Float.{binary64}
use Rattle.std.specs.Float.Ieee.{neg, of_int}
use Rattle.bits.specs.Parts.{PartsOf}
use Rattle.whole.specs.laws.Wholes.{Picks, under, signed-neg, signed_pos, low}

-- ---- a value's parts, below 2 ^ 52
module _ (x : Float) (f s : Bool) (d e : ℕ) (p : PartsOf x f s d e) (q : (f && ltb e 1074) ≡ true) where
  pub some_below : 0 < 1074 - e
  some_below = omega (arith, under x f s d e p q)

-- ---- what it picks
module _ (F : Float → Float) (pick : Bool → ℕ → ℕ → ℕ) (w : Picks F pick) where
  module _ (x : Float) (f s : Bool) (d e : ℕ) (p : PartsOf x f s d e) where
    -- below 2 ^ 52: of d / 2 ^ (1074 - e)
    module _ (q : (f && ltb e 1074) ≡ true) (n : ℕ) (z : n ≡ pick s d (2 ^ (1074 - e))) where
      pub below-zero : s ≡ true → neg (of_int binary64 (pos n)) ≡ F x
      below-zero r = signed-neg s n r ∙ low F pick w x f s d e p q n z

      pub above_zero : s ≡ false → of_int binary64 (pos n) ≡ F x
      above_zero r = signed_pos s n r ∙ low F pick w x f s d e p q n z
