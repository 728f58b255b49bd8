-- One return with the period term, one without.
use Rattle.laws.specs.Ladder.{held, passed}
use Rattle.ellipf.specs.Ellipf.{with_periods_of}
use Rattle.ellipf.proofs.with_periods.Goals as goal

pub returns-then-mm : goal.returns-then-mm
unfolding with_periods_of
returns-then-mm c =
    held _ _ c.if-mm.true (rw (← c.k_unchecked-k.ensures) c.closed.ensures)

pub returns : goal.returns
unfolding with_periods_of
returns c = passed _ _ c.if-mm.false c.closed-2.ensures
