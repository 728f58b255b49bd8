-- The loop from the first sums is the definition's run.
use mathlib.Core.Path.{◌≡◌, ap, ◌∙◌}
use lib.Ieee.{Float}
use Rattle.legendre.specs.Mean.{goes_on_of, iterated}
use Rattle.legendre.specs.Ellipe.{goes_on, start_of, next_of, last_sums_of}
use Rattle.legendre.specs.declared.e.Sums.{Sums}

pub last_is : (tolerance y0 : Float) {s r : Sums} → s ≡ start_of y0 → r ≡ iterated (λ (s : Sums). goes_on_of tolerance s.x s.y) next_of 32 s → r ≡ last_sums_of 32 tolerance y0
unfolding last_sums_of goes_on
last_is tolerance y0 e h = h ∙ ap (λ (s : Sums). iterated (λ (s : Sums). goes_on_of tolerance s.x s.y) next_of 32 s) e
