-- The body is the definition, each call replaced by what it ensures.
use Rattle.ellippi.specs.Ellippi.{first_below_of}
use Rattle.ellippi.proofs.first_below.Goals as goal

pub returns : goal.returns
unfolding first_below_of
returns c = rw (c.complete_k-k.ensures, c.from_rest-t.ensures)
