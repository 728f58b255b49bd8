-- The pattern in and the pattern out are those of one float each.
use Rattle.shuttlemint.proofs.sm_cosine.Goals as goal

pub returns : goal.returns
returns c = rw (c.to_pattern.ensures, c.value.ensures, c.cosine.ensures.0, c.from_pattern.ensures)
