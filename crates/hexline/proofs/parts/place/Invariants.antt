-- Part by part.
use mathlib.Core.Path.{◌≡◌}
use Rattle.hexline.specs.Parts.{place_of}
use Rattle.hexline.proofs.parts.place.Given as goal

abbrev pub invariant-loop : goal.invariant-loop
invariant-loop l = l.at ≡ place_of l.e l.s l.counter
