-- The count of inner rounds fits, since each RC makes at most 64.
use Rattle.std.proofs.Common.{arith}
use Rattle.carlson.specs.laws.Counts.{few}
use Rattle.rc.specs.laws.Counts.{rc_counts}
use Rattle.rj.proofs.StateRooted.round_by.Goals as goal

pub overflow_add-result : goal.overflow_add-result
overflow_add-result c =
    let (k, below, most) = c.requires in
    let more = few c.rc-inner.ensures (rc_counts _ _) in
    omega arith
