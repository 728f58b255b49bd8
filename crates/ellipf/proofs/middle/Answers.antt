-- The body is the definition, each call replaced by what it ensures.
use lib.Ieee.{of_bits}
use Rattle.laws.specs.Arithmetic.{dec}
use Rattle.ellipf.specs.Ellipf.{middle_of}
use Rattle.ellipf.proofs.middle.Goals as goal

pub returns-then-cross : goal.returns-then-cross
unfolding middle_of dec of_bits
returns-then-cross c = rw (← c.magnitude-cross.ensures, c.if-cross.true)

pub returns : goal.returns
unfolding middle_of dec of_bits
returns c = rw (← c.magnitude-cross.ensures, c.if-cross.false)
