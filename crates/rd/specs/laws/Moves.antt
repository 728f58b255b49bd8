-- RD among the recipes that make their rounds together. Assumes nothing.
use Rattle.std.specs.Prelude.{◌≡◌, refl}
use Rattle.rf.specs.Rf.{roots_of}
use Rattle.rf.specs.Arguments.{roots_at}
use Rattle.rf.specs.laws.Together.{Recipe, Moves}
use Rattle.rd.specs.declared.State.{State}
use Rattle.rd.specs.Rd.{stops_of, next_of, round_of, closed_of}

abbrev pub rd_recipe : Recipe State
rd_recipe = record { stops = stops_of; round = round_of; closed = closed_of; at = λ s. record { x = s.x; y = s.y; z = s.z } }

pub rd_moves : Moves rd_recipe
unfolding round_of next_of roots_of
rd_moves s = refl

pub rd_by_roots : (s : State) → next_of s (roots_at (rd_recipe.at s)) ≡ round_of s
unfolding round_of
rd_by_roots s = refl
