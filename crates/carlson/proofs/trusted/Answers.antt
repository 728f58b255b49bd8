-- 0.0 / 0.0 is the NaN.
use lib.Ieee.{div, of_bits}
use Rattle.carlson.specs.Series.{trusted_of}
use Rattle.carlson.proofs.trusted.Goals as goal

pub returns-then-v : goal.returns-then-v
unfolding trusted_of div of_bits
returns-then-v c = simp c.if-v.true
