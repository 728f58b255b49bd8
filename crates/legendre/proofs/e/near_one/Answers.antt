-- The two logarithms by what they ensure; the rest is computed.
use lib.Ieee.{of_bits}
use Rattle.legendre.specs.Ellipe.{near_one_of}
use Rattle.legendre.proofs.e.near_one.Goals as goal

pub returns : goal.returns
unfolding near_one_of of_bits
returns c = rw (c.ln-2.ensures, c.ln.ensures)
