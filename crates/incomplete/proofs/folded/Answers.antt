-- One return for each parity.
use Rattle.incomplete.specs.Period.{folded_of}
use Rattle.incomplete.proofs.folded.Goals as goal

pub returns-then-odd : goal.returns-then-odd
unfolding folded_of
returns-then-odd c =
    rw (← c.remainder-rest.ensures.1, ← c.round-mm.ensures, ← c.remainder-odd.ensures.1, c.if-odd.true)

pub returns : goal.returns
unfolding folded_of
returns c =
    rw (← c.remainder-rest.ensures.1, ← c.round-mm.ensures, ← c.remainder-odd.ensures.1, c.if-odd.false)
