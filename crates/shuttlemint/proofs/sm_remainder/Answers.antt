-- The patterns in and the pattern out are those of one float each.
use Rattle.shuttlemint.proofs.sm_remainder.Goals as goal

pub returns : goal.returns
returns c = rw (c.to_pattern.ensures, c.remainder.ensures.0, c.from_pattern-2.ensures, c.from_pattern.ensures)
