-- The body is the definition, each call replaced by what it ensures.
use Rattle.incomplete.proofs.sine.Goals as goal

pub returns : goal.returns
returns c = rw (c.value.ensures, c.sine.ensures.0)
