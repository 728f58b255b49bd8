-- `even` meets its contract: it begins with the sum of no term.
use Rattle.std.proofs.Common.{rules}
use Rattle.angle.specs.Alternating.{alternating_of}
use Rattle.angle.proofs.series.even.Goals as goal

pub step-b-requires : goal.step-b-requires
unfolding alternating_of
step-b-requires c = search rules
