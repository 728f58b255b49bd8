-- The pattern in and the pattern out are those of one float each.
use Rattle.shuttlemint.proofs.sm_magnitude.Goals as goal

pub returns : goal.returns
returns c = rw (c.to_pattern.ensures, c.magnitude.ensures, c.from_pattern.ensures)
