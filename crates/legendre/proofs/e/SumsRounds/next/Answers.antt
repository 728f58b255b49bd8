-- The two means by what they ensure; the rest is computed.
use Rattle.legendre.specs.Ellipe.{next_of}
use Rattle.legendre.proofs.e.SumsRounds.next.Goals as goal

pub returns : goal.returns
unfolding next_of
returns c = rw (c.geometric-y.ensures, c.arithmetic-x.ensures)
