-- The body is the definition, each call replaced by what it ensures.
use Rattle.incomplete.specs.Scaling.{large_of}
use Rattle.incomplete.proofs.large.Goals as goal

pub returns : goal.returns
unfolding large_of
returns c = rw c.magnitude-size.ensures
