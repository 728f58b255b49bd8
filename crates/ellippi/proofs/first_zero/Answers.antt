-- The body is the definition, each call replaced by what it ensures.
use Rattle.laws.specs.Ladder.{held, passed}
use Rattle.ellippi.specs.Ellippi.{first_zero_of}
use Rattle.ellippi.proofs.first_zero.Goals as goal

pub returns-then-m : goal.returns-then-m
unfolding first_zero_of
returns-then-m c = held _ _ c.if-m.true c.plain_term.ensures

pub returns : goal.returns
unfolding first_zero_of
returns c = passed _ _ c.if-m.false (rw (← c.complete_k-k.ensures) c.plain_term-2.ensures)
