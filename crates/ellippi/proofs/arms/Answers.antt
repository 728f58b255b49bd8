-- Down the file's arms: the i-th return passed the tests before its own.
use Rattle.laws.specs.Ladder.{held, passed}
use Rattle.ellippi.specs.Ellippi.{arms_of}
use Rattle.ellippi.proofs.arms.Goals as goal

pub returns-then-n : goal.returns-then-n
unfolding arms_of
returns-then-n c =
    held _ _ c.if-n.true c.principal.ensures

pub returns-then-n-m : goal.returns-then-n-m
unfolding arms_of
returns-then-n-m c =
    passed _ _ c.if-n.false (held _ _ c.if-n-m.true c.both_below.ensures)

pub returns-then-n-2 : goal.returns-then-n-2
unfolding arms_of
returns-then-n-2 c =
    passed _ _ c.if-n.false (passed _ _ c.if-n-m.false (held _ _ c.if-n-2.true c.first_below.ensures))

pub returns-then-n-3 : goal.returns-then-n-3
unfolding arms_of
returns-then-n-3 c =
    passed _ _ c.if-n.false (passed _ _ c.if-n-m.false (passed _ _ c.if-n-2.false (held _ _ c.if-n-3.true c.first_zero.ensures)))

pub returns-then-m-n : goal.returns-then-m-n
unfolding arms_of
returns-then-m-n c =
    passed _ _ c.if-n.false (passed _ _ c.if-n-m.false (passed _ _ c.if-n-2.false (passed _ _ c.if-n-3.false (held _ _ c.if-m-n.true c.diagonal.ensures))))

pub returns : goal.returns
unfolding arms_of
returns c =
    passed _ _ c.if-n.false (passed _ _ c.if-n-m.false (passed _ _ c.if-n-2.false (passed _ _ c.if-n-3.false (passed _ _ c.if-m-n.false c.from_rest.ensures))))
