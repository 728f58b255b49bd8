-- What magnitude ensures of both sides of the test.
use Rattle.legendre.specs.Mean.{goes_on_of}
use Rattle.legendre.proofs.mean.goes_on.Goals as goal

pub returns : goal.returns
unfolding goes_on_of
returns c = rw (c.magnitude-2.ensures, c.magnitude.ensures)
