-- The body is the definition, each call replaced by what it ensures.
use Rattle.legendre.proofs.complete_k.Goals as goal

pub returns : goal.returns
returns c = rw (c.value.ensures, c.ellipk.ensures)
