-- The last means, then K from them.
use lib.Ieee.{of_bits}
use Rattle.laws.specs.Arithmetic.{dec}
use Rattle.legendre.specs.Ellipk.{goes_on, last_means_of, k_mean_of}
use Rattle.legendre.proofs.k.k_mean.Goals as goal

pub returns : goal.returns
unfolding k_mean_of last_means_of goes_on dec of_bits
returns c = rw (c.k_from.ensures, c.last-s.ensures)
