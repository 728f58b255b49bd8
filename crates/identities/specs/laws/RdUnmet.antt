-- RD of infinite and NaN arguments: the stop test is never met, refusal 5. Assumes nothing.
use Rattle.std.specs.Prelude.{◌≡◌, false, ◌&&◌, T, Float}
use Rattle.std.specs.Float.Ieee.{of_bits}
use Rattle.std.specs.Float.Ieee.Scale.{finite}
use Rattle.laws.specs.Arithmetic.{◌⊕◌, ◌⊗◌, 3·0}
use Rattle.identities.specs.laws.Unmet.{Lost, lost_mul, lost_div, both, three, far, far_larger, far-quarter, far-below, far_apart, unmet}
use Rattle.rd.specs.Rd.{start_of, stops_of, next_of, round_of, closed_of, rd_of}

-- the mean is infinite or NaN: from an argument, or by overflow
pub rd_lost : (x y z : Float) → Lost (finite (start_of x y z).mean) → (rd_of x y z).met ≡ false
unfolding rd_of start_of stops_of next_of round_of closed_of
rd_lost x y z h = unmet stops_of round_of closed_of (λ s. T (far s.distance)) (λ s p. far-quarter _ p) (λ s k p. far-below _ _ p) (start_of x y z) (far_larger _ _ (far_larger _ _ (far_apart _ x h) (far_apart _ y h)) (far_apart _ z h))

-- an argument is infinite or NaN
pub rd_unmet : (x y z : Float) → Lost (finite x && finite y && finite z) → (rd_of x y z).met ≡ false
unfolding start_of of_bits
rd_unmet x y z h =
    rd_lost x y z (lost_div (x ⊕ y ⊕ 3·0 ⊗ z) _ _ _ (three x y (3·0 ⊗ z) (both (finite x && finite y) (finite z) (finite x && finite y) (finite (3·0 ⊗ z)) (λ l. l) (lost_mul 3·0 z) h)))
