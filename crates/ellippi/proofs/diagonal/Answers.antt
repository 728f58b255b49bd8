-- The body is the definition, each call replaced by what it ensures.
use Rattle.ellippi.specs.Ellippi.{diagonal_of}
use Rattle.ellippi.proofs.diagonal.Goals as goal

pub returns : goal.returns
unfolding diagonal_of
returns c = rw (c.plain_term.ensures, c.complete_e-e.ensures)
