-- What the logarithm ensures, and what its answer reads out as.
use Rattle.legendre.specs.Ellipe.{ln_of}
use Rattle.legendre.proofs.e.ln.Goals as goal

pub returns : goal.returns
unfolding ln_of
returns c = rw (c.value.ensures, c.logarithm.ensures.0)
