-- Whatever the reads that are left come to, all of them together come to that.
use Rattle.std.proofs.Common.{refl, arith}
use Rattle.runner.proofs.Runs.{ended, one_more_lem, none_left}
use Rattle.runner.proofs.reading.read_all.Goals as goal

pub loop-left-init : goal.loop-left-init
loop-left-init c v failed all = all

pub returns-in-End : goal.returns-in-End
returns-in-End c = c.loop-left.invariant _ _ (ended c.in-End.ensures.left_value c.in-End.ensures.one_read refl)

pub returns-in-Failed : goal.returns-in-Failed
returns-in-Failed c = c.loop-left.invariant _ _ (ended c.in-Failed.ensures.left_value c.in-Failed.ensures.one_read refl)

pub loop-left-smaller : goal.loop-left-smaller
loop-left-smaller c = omega (arith, c.in-More.ensures.left_value)

pub loop-left-preserved : goal.loop-left-preserved
loop-left-preserved c v failed rest = c.loop-left.invariant v failed (one_more_lem c.in-More.ensures.left_value c.in-More.ensures.one_read refl rest)

pub returns : goal.returns
returns c = c.loop-left.invariant _ _ (none_left _ c.loop-left.left c.loop-left-test.false)
