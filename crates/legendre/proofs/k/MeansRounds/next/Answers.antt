-- The two means, by what their functions ensure.
use Rattle.legendre.specs.Ellipk.{next_of}
use Rattle.legendre.proofs.k.MeansRounds.next.Goals as goal

pub returns : goal.returns
unfolding next_of
returns c = rw (c.geometric.ensures, c.arithmetic.ensures)
