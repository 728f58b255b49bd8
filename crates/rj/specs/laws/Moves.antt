-- RJ among the recipes that make their rounds together. Assumes nothing.
use Rattle.std.specs.Prelude.{◌≡◌, refl}
use Rattle.rf.specs.Rf.{roots_of}
use Rattle.rf.specs.Arguments.{roots_at}
use Rattle.rf.specs.laws.Together.{Recipe, Moves}
use Rattle.rj.specs.declared.State.{State}
use Rattle.rj.specs.Rj.{stops_of, next_of, round_of, closed_of}

abbrev pub rj_recipe : Recipe State
rj_recipe = record { stops = stops_of; round = round_of; closed = closed_of; at = λ s. record { x = s.x; y = s.y; z = s.z } }

pub rj_moves : Moves rj_recipe
unfolding round_of next_of roots_of
rj_moves s = refl

pub rj_by_roots : (s : State) → next_of s (roots_at (rj_recipe.at s)) ≡ round_of s
unfolding round_of
rj_by_roots s = refl
