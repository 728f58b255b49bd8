-- The loop runs `iterated`: Iteration.antt.
use Rattle.std.proofs.Common.{refl}
use Rattle.legendre.proofs.Iteration.{at_start, at_next, where_met, where_spent}
use Rattle.legendre.proofs.mean.Rounds.last.Goals as goal

pub loop-init : goal.loop-init
loop-init g c = at_start _ _ _ _ refl

pub returns-then-not-goes_on : goal.returns-then-not-goes_on
returns-then-not-goes_on g c = where_met _ _ _ _ _ _ c.goes_on.ensures c.if-not-goes_on.true c.loop.invariant

pub loop-preserved : goal.loop-preserved
loop-preserved g c = at_next _ _ _ _ _ _ _ c.loop-test.true c.goes_on.ensures c.if-not-goes_on.false c.next-s.ensures c.loop.invariant

pub returns : goal.returns
returns g c = where_spent _ _ _ _ _ c.loop-test.false c.loop.invariant
