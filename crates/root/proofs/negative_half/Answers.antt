-- `negative_half` meets its contract (`Trials`).
use Rattle.std.proofs.Common.{◌^◌, ◌<◌, rules}
use Rattle.root.proofs.Trials.{below_half}
use Rattle.root.proofs.negative_half.Goals as goal
use Rattle.root.proofs.negative_half.Goals.{After-wrapping_sub_u64, After-wrapping_sub_u64-below}

below-fits : (c : After-wrapping_sub_u64-below) → c.wrapping_sub_u64-below.result < 2 ^ 64
below-fits c = search rules

half-fits : (c : After-wrapping_sub_u64) → c.wrapping_sub_u64.result < 2 ^ 64
half-fits c = search rules

pub returns : goal.returns
returns c s = below_half c.args.down c.wrapping_sub_u64-below.result c.wrapping_sub_u64.result s (below-fits (goal.at.returns c).After-wrapping_sub_u64-below) (half-fits (goal.at.returns c).After-wrapping_sub_u64) c.wrapping_sub_u64-below.ensures.value c.wrapping_sub_u64.ensures.value
