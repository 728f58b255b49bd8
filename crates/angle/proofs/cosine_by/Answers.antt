-- The sum by a square of at most 16, rounded.
use mathlib.Core.Path.{◌∙◌, ap}
use Prim.Native.Nat.{ℕ, ◌^◌}
use native.Mathlib.Nat.{min-le_right}
use lib.Dec.{ltb}
use lib.Ieee.{binary64, round}
use Rattle.bounds.specs.Close.{distance_of}
use Rattle.angle.specs.declared.series.Balance.{Balance}
use Rattle.angle.specs.Alternating.{alternating_of}
use Rattle.angle.specs.Cosine.{cosine_by}
use Rattle.angle.proofs.cosine_by.Goals as goal

pub even-requires : goal.even-requires
even-requires c = rw c.min.ensures (min-le_right c.args.square (2 ^ 63))

pub returns : goal.returns
unfolding cosine_by
returns c =
    c.cosine_from.ensures
    ∙ ap (λ (b : Balance). round binary64 (ltb b.added b.taken) (distance_of b.added b.taken) (2 ^ 60)) (c.even.ensures ∙ ap (λ (t : ℕ). alternating_of t 0 21) c.min.ensures)
