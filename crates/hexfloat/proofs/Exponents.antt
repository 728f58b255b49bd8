-- What is held, with an exponent or none. Assumes nothing.
use mathlib.Core.Path.{◌≡◌, refl, sym, ap, ◌∙◌}
use Prim.Native.Nat.{ℕ, ◌+◌, ◌*◌, ◌^◌, ◌<◌}
use native.Mathlib.Nat.{mul-one}
use mathlib.Core.Bool.{Bool, true, false, cond}
use mathlib.Core.List.{List, [], ◌∷◌}
use lib.Dec.{eqb}
use lib.ListN.{take, drop, get_or}
use lib.Ieee.{Float, binary64, round, to_bits}
use Rattle.std.specs.Prelude.{Some, None}
use Rattle.hexfloat.specs.declared.digits.Held.{Held}
use Rattle.hexfloat.specs.Reading.{given, power_of, scaled_by}
use Rattle.hexfloat.specs.Steps.{scaled_of, Holds}
use Rattle.hexfloat.specs.laws.Scaled.{scaled_is}
use Rattle.std.specs.Cmp.Lexicographic.{pointwise}
use Rattle.hexfloat.proofs.Parts.{minus_is}

-- the pattern of what is held, once it is rounded
module _ (negative : Bool) (n : ℕ) (h : Held) (H : Holds n h) (small : n < 2 ^ 160) (x : Float) (p : ℕ) (q : p ≡ to_bits binary64 x) where
  pub pattern_up : (up down : ℕ) → x ≡ scaled_of negative h up down → Some p ≡ Some (to_bits binary64 (round binary64 negative (n * 2 ^ up) (2 ^ down)))
  pattern_up up down d = ap Some (q ∙ ap (to_bits binary64) (d ∙ scaled_is negative n h H small up down))

  pub pattern_down : (down : ℕ) → x ≡ scaled_of negative h 0 down → Some p ≡ Some (to_bits binary64 (round binary64 negative n (2 ^ down)))
  pattern_down down d = pattern_up 0 down d ∙ ap (λ (y : ℕ). Some (to_bits binary64 (round binary64 negative y (2 ^ down)))) (mul-one n)

module _ (negative : Bool) (n behind : ℕ) (s : List ℕ) where
  module _ (first : pointwise eqb (take 1 s) (45 ∷ []) ≡ true) where
    pub minus_none : None ≡ power_of (drop 1 s) → None ≡ scaled_by negative n behind s
    unfolding scaled_by given
    minus_none e = rw (sym (minus_is s) ∙ first, ← e) refl

    pub minus_some : (k p : ℕ) → Some k ≡ power_of (drop 1 s) → Some p ≡ Some (to_bits binary64 (round binary64 negative n (2 ^ (4 * behind + k)))) → Some p ≡ scaled_by negative n behind s
    unfolding scaled_by given
    minus_some k p e d = rw (sym (minus_is s) ∙ first, ← e) d

  module _ (first : pointwise eqb (take 1 s) (45 ∷ []) ≡ false) where
    pub plus_none : None ≡ power_of (drop (cond (eqb (get_or s 0 0) 43) 1 0) s) → None ≡ scaled_by negative n behind s
    unfolding scaled_by given
    plus_none e = rw (sym (minus_is s) ∙ first, ← e) refl

    pub plus_some : (k p : ℕ) → Some k ≡ power_of (drop (cond (eqb (get_or s 0 0) 43) 1 0) s)
        → Some p ≡ Some (to_bits binary64 (round binary64 negative (n * 2 ^ k) (2 ^ (4 * behind)))) → Some p ≡ scaled_by negative n behind s
    unfolding scaled_by given
    plus_some k p e d = rw (sym (minus_is s) ∙ first, ← e) d
