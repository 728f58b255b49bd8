-- Down the tests.
use mathlib.Core.Path.{refl}
use Rattle.laws.specs.Ladder.{held, passed}
use Rattle.ellipeinc.specs.Ellipeinc.{with_periods_of}
use Rattle.ellipeinc.proofs.Signed.with_periods.Goals as goal

pub returns-then-mm-m : goal.returns-then-mm-m
unfolding with_periods_of
returns-then-mm-m c = held _ _ c.if-mm-m.true refl

pub returns-then-not-t : goal.returns-then-not-t
unfolding with_periods_of
returns-then-not-t c = passed _ _ c.if-mm-m.false (held _ _ c.if-not-t.true refl)

pub returns-then-mm : goal.returns-then-mm
unfolding with_periods_of
returns-then-mm c =
    passed _ _ c.if-mm-m.false (passed _ _ c.if-not-t.false (held _ _ c.if-mm.true (rw (← c.complete_e-e.ensures) c.handed.ensures)))

pub returns : goal.returns
unfolding with_periods_of
returns c =
    passed _ _ c.if-mm-m.false (passed _ _ c.if-not-t.false (passed _ _ c.if-mm.false c.handed-2.ensures))
