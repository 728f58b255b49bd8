-- The body is the definition, each call replaced by what it ensures.
use lib.Ieee.{of_bits}
use Rattle.laws.specs.Ladder.{held, passed}
use Rattle.ellipf.specs.Ellipf.{far_of}
use Rattle.ellipf.proofs.far.Goals as goal

pub returns-then-size : goal.returns-then-size
unfolding far_of of_bits
returns-then-size c = held _ _ c.if-size.true c.handed.ensures

pub returns : goal.returns
unfolding far_of of_bits
returns c = passed _ _ c.if-size.false (rw (← c.k_unchecked-k.ensures) c.handed-2.ensures)
