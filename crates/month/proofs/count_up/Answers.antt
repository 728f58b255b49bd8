-- Beyond the end nothing is set.
use Rattle.std.proofs.Common.{refl, sym, arith}
use lib.Seq.{set_out}
use Rattle.month.specs.Month.{one_more}
use Rattle.month.proofs.count_up.Goals as goal

pub returns-then-k-counts : goal.returns-then-k-counts
unfolding one_more
returns-then-k-counts c = refl

pub returns-else-k-counts : goal.returns-else-k-counts
unfolding one_more
returns-else-k-counts c = sym (set_out _ _ _ (omega (arith, c.if-k-counts.false)))
