-- The test of m1 decides, as in the definition (`Negative`).
use mathlib.Core.Path.{◌∙◌}
use lib.Ieee.{of_bits}
use Rattle.laws.specs.Arithmetic.{dec}
use Rattle.legendre.specs.Ellipke.{both_mean_of, both_below_one_of, both_negative_of, scaled_of}
use Rattle.legendre.proofs.Negative.{by_mean, by_piece}
use Rattle.legendre.proofs.ke.both_negative.Goals as goal

pub returns-then-m1 : goal.returns-then-m1
unfolding both_negative_of dec of_bits
returns-then-m1 c = c.scaled.ensures ∙ by_mean scaled_of both_mean_of (both_below_one_of _) c.root-c.ensures c.both_mean.ensures c.if-m1.true

pub returns : goal.returns
unfolding both_negative_of dec of_bits
returns c = c.scaled-2.ensures ∙ by_piece scaled_of both_mean_of (both_below_one_of _) c.root.ensures c.both_below_one-b.ensures c.if-m1.false
