-- RJ of infinite and NaN arguments: the stop test is never met, refusal 5. Assumes nothing.
use Rattle.std.specs.Prelude.{◌≡◌, refl, Bool, true, false, ◌&&◌, ℕ, T, Float}
use Rattle.std.proofs.Common.{ap}
use Rattle.std.specs.Float.Ieee.{of_bits}
use Rattle.std.specs.Float.Ieee.Scale.{finite}
use Rattle.laws.specs.Arithmetic.{◌⊕◌, ◌⊗◌, 2·0}
use Rattle.carlson.specs.Loop.{iterate}
use Rattle.identities.specs.laws.Unmet.{Lost, lost_add, lost_mul, lost_div, both, three, far, far_larger, far-quarter, far-below, far_apart, unmet, unmet_from}
use Rattle.rj.specs.Rj.{start_of, stops_of, next_of, round_of, closed_of, rj_of}
use Rattle.rj.specs.declared.State.{State}

-- the mean is infinite or NaN: from an argument, or by overflow
pub rj_lost : (x y z p : Float) → Lost (finite (start_of x y z p).mean) → (rj_of x y z p).met ≡ false
unfolding rj_of start_of stops_of next_of round_of closed_of
rj_lost x y z p h =
    unmet stops_of round_of closed_of (λ s. T (far s.distance)) (λ s f. far-quarter _ f) (λ s k f. ap (λ (b : Bool). b && s.inner) (far-below _ _ f)) (start_of x y z p)
    (far_larger _ _ (far_larger _ _ (far_apart _ x h) (far_apart _ y h)) (far_larger _ _ (far_apart _ z h) (far_apart _ p h)))

-- an argument is infinite or NaN
pub rj_unmet : (x y z p : Float) → Lost (finite x && finite y && finite z && finite p) → (rj_of x y z p).met ≡ false
unfolding start_of of_bits
rj_unmet x y z p h =
    rj_lost x y z p
    (lost_div (x ⊕ y ⊕ z ⊕ 2·0 ⊗ p) _ _ _
    (lost_add (x ⊕ y ⊕ z) (2·0 ⊗ p) (both (finite x && finite y && finite z) (finite p) (finite (x ⊕ y ⊕ z)) (finite (2·0 ⊗ p)) (three x y z) (lost_mul 2·0 p) h)))

-- once an inner RC is not met, RJ is not met, whatever rounds follow
pub rj_inner_unmet : (s : State) (n k : ℕ) (b : Bool) → s.inner ≡ false → (iterate stops_of round_of closed_of n k b s).met ≡ false
unfolding next_of round_of closed_of
rj_inner_unmet s n k b h = unmet_from stops_of round_of closed_of (λ s. s.inner ≡ false) (λ s p. left _ _ p) (λ s k p. right (stops_of s) _ p) n k b s h
  where
    left : (a b : Bool) → a ≡ false → (a && b) ≡ false
    left a b e = ap (λ (a : Bool). a && b) e

    right : (a b : Bool) → b ≡ false → (a && b) ≡ false
    right true b e = e
    right false b e = refl
