-- The mean and the multiply-add by what they ensure; the rest is computed.
use Rattle.legendre.specs.Ellipe.{start_of}
use Rattle.legendre.proofs.e.Sums.start.Goals as goal

pub returns : goal.returns
unfolding start_of
returns c = rw (c.fused.ensures, c.arithmetic-mean.ensures)
