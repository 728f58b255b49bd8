-- `odd` meets its contract, as `even` does.
use Rattle.std.proofs.Common.{rules}
use Rattle.angle.specs.Alternating.{alternating_of}
use Rattle.angle.proofs.series.odd.Goals as goal

pub five-b-requires : goal.five-b-requires
unfolding alternating_of
five-b-requires c = search rules
