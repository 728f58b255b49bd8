-- The body is the definition, each call replaced by what it ensures.
use Rattle.legendre.specs.Ellipk.{k_unchecked_of}
use Rattle.legendre.proofs.k_unchecked.Goals as goal

pub returns : goal.returns
unfolding k_unchecked_of
returns c = rw (c.k_mean.ensures, c.root.ensures)
