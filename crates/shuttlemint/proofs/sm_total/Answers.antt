-- The total's pattern.
use Rattle.shuttlemint.proofs.sm_total.Goals as goal

pub returns : goal.returns
returns c = rw (c.to_pattern.ensures, c.total.ensures)
