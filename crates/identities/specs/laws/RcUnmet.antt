-- RC of infinite and NaN arguments: the stop test is never met, refusal 5. Assumes nothing.
use Rattle.std.specs.Prelude.{◌≡◌, Bool, true, false, ◌&&◌, T, Float}
use Rattle.std.specs.Float.Ieee.{of_bits}
use Rattle.std.specs.Float.Ieee.Scale.{finite}
use Rattle.laws.specs.Arithmetic.{◌⊕◌}
use Rattle.identities.specs.laws.Unmet.{Lost, lost_div, three, far, far_larger, far-quarter, far-below, far_apart, unmet}
use Rattle.rc.specs.Rc.{start_of, stops_of, round_of, closed_of, rc_of}

-- the mean is infinite or NaN: from an argument, or by overflow
pub rc_lost : (x y : Float) → Lost (finite (start_of x y).mean) → (rc_of x y).met ≡ false
unfolding rc_of start_of stops_of round_of closed_of
rc_lost x y h = unmet stops_of round_of closed_of (λ s. T (far s.distance)) (λ s p. far-quarter _ p) (λ s k p. far-below _ _ p) (start_of x y) (far_larger _ _ (far_apart _ x h) (far_apart _ y h))

-- an argument is infinite or NaN
pub rc_unmet : (x y : Float) → Lost (finite x && finite y) → (rc_of x y).met ≡ false
unfolding start_of of_bits
rc_unmet x y h = rc_lost x y (lost_div (x ⊕ y ⊕ y) _ _ _ (three x y y (twice (finite x) (finite y) h)))
  where
    twice : (a b : Bool) → Lost (a && b) → Lost (a && b && b)
    twice false b h = tt
    twice true false h = tt
    twice true true h = elim h [ ]
