-- The body is the definition, each call replaced by what it ensures.
use Rattle.ellipeinc.specs.Ellipeinc.{own_of}
use Rattle.ellipeinc.proofs.own.Goals as goal

pub returns : goal.returns
unfolding own_of
returns c = rw c.magnitude.ensures
