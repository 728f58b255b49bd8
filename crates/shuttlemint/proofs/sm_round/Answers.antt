-- The pattern in and the pattern out are those of one float each.
use Rattle.shuttlemint.proofs.sm_round.Goals as goal

pub returns : goal.returns
returns c = rw (c.to_pattern.ensures, c.round.ensures, c.from_pattern.ensures)
