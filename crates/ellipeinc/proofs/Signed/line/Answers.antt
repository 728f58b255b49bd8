-- The body is the definition, each call replaced by what it ensures.
use Rattle.ellipeinc.specs.Ellipeinc.{line_of}
use Rattle.ellipeinc.proofs.Signed.line.Goals as goal

pub returns : goal.returns
unfolding line_of
returns c = rw (c.handed.ensures, c.sine-s.ensures, c.round-mm.ensures)
