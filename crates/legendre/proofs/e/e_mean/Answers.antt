-- The test of y0 decides, as in the definition.
use mathlib.Core.Path.{ap, ◌∙◌}
use lib.Ieee.{of_bits}
use Rattle.laws.specs.Ladder.{held, passed}
use Rattle.laws.specs.Arithmetic.{dec}
use Rattle.legendre.specs.Ellipe.{e_mean_of, e_from_of}
use Rattle.legendre.proofs.LastSums.{last_is}
use Rattle.legendre.proofs.e.e_mean.Goals as goal

pub returns-then-y0 : goal.returns-then-y0
unfolding e_mean_of of_bits dec
returns-then-y0 c = held _ _ c.if-y0.true c.near_one.ensures

pub returns : goal.returns
unfolding e_mean_of of_bits dec
returns c = passed _ _ c.if-y0.false (c.e_from.ensures ∙ ap e_from_of (last_is _ _ c.start.ensures c.last.ensures))
