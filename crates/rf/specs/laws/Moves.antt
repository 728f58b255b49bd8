-- RF among the recipes that make their rounds together. Assumes nothing.
use Rattle.std.specs.Prelude.{◌≡◌, refl}
use Rattle.rf.specs.Rf.{roots_of, stops_of, next_of, round_of, closed_of}
use Rattle.rf.specs.Arguments.{roots_at}
use Rattle.rf.specs.laws.Together.{Recipe, Moves}
use Rattle.rf.specs.declared.State.{State}

abbrev pub rf_recipe : Recipe State
rf_recipe = record { stops = stops_of; round = round_of; closed = closed_of; at = λ s. record { x = s.x; y = s.y; z = s.z } }

pub rf_moves : Moves rf_recipe
unfolding round_of next_of
rf_moves s = refl

pub rf_by_roots : (s : State) → next_of s (roots_at (rf_recipe.at s)).spread ≡ round_of s
unfolding round_of roots_of
rf_by_roots s = refl
