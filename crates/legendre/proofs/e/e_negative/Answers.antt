-- The test of m1 decides, as in the definition (`Negative`).
use lib.Ieee.{of_bits}
use Rattle.laws.specs.Arithmetic.{dec, ◌⊗◌}
use Rattle.legendre.specs.Ellipe.{e_mean_of, e_below_one_of, e_negative_of}
use Rattle.legendre.proofs.Negative.{by_mean, by_piece}
use Rattle.legendre.proofs.e.e_negative.Goals as goal

pub returns-then-m1 : goal.returns-then-m1
unfolding e_negative_of dec of_bits
returns-then-m1 c = by_mean (λ c e. c ⊗ e) (e_mean_of 32) (e_below_one_of 32 _) c.root-c.ensures c.e_mean.ensures c.if-m1.true

pub returns : goal.returns
unfolding e_negative_of dec of_bits
returns c = by_piece (λ c e. c ⊗ e) (e_mean_of 32) (e_below_one_of 32 _) c.root.ensures c.e_below_one-e.ensures c.if-m1.false
