-- The pattern in and the pattern out are those of one float each.
use Rattle.shuttlemint.proofs.sm_trunc.Goals as goal

pub returns : goal.returns
returns c = rw (c.to_pattern.ensures, c.trunc.ensures, c.from_pattern.ensures)
