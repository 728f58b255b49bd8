-- RF of infinite and NaN arguments: the stop test is never met, refusal 5. Assumes nothing.
use Rattle.std.specs.Prelude.{◌≡◌, false, ◌&&◌, T, Float}
use Rattle.std.specs.Float.Ieee.{of_bits}
use Rattle.std.specs.Float.Ieee.Scale.{finite}
use Rattle.laws.specs.Arithmetic.{◌⊕◌}
use Rattle.identities.specs.laws.Unmet.{Lost, lost_div, three, far, far_larger, far-quarter, far-below, far_apart, unmet}
use Rattle.rf.specs.Rf.{start_of, stops_of, next_of, round_of, closed_of, rf_of}

-- the mean is infinite or NaN: from an argument, or by overflow
pub rf_lost : (x y z : Float) → Lost (finite (start_of x y z).mean) → (rf_of x y z).met ≡ false
unfolding rf_of start_of stops_of next_of round_of closed_of
rf_lost x y z h = unmet stops_of round_of closed_of (λ s. T (far s.distance)) (λ s p. far-quarter _ p) (λ s k p. far-below _ _ p) (start_of x y z) (far_larger _ _ (far_larger _ _ (far_apart _ x h) (far_apart _ y h)) (far_apart _ z h))

-- an argument is infinite or NaN
pub rf_unmet : (x y z : Float) → Lost (finite x && finite y && finite z) → (rf_of x y z).met ≡ false
unfolding start_of of_bits
rf_unmet x y z h = rf_lost x y z (lost_div (x ⊕ y ⊕ z) _ _ _ (three x y z h))
