-- The pattern in and the pattern out are those of one float each.
use Rattle.shuttlemint.proofs.sm_floor.Goals as goal

pub returns : goal.returns
returns c = rw (c.to_pattern.ensures, c.floor.ensures, c.from_pattern.ensures)
