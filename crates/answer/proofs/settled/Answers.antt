-- One return for each side of the test.
use Rattle.answer.specs.Settle.{settled_of}
use Rattle.answer.proofs.settled.Goals as goal

pub returns-then-not-met : goal.returns-then-not-met
unfolding settled_of
returns-then-not-met c = simp c.if-not-met.true

pub returns : goal.returns
unfolding settled_of
returns c = simp (c.if-not-met.false, c.finite.ensures)
