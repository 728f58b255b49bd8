-- `halved` meets its contract (`Trials`).
use Rattle.std.proofs.Common.{◌^◌, ◌<◌, rules}
use Rattle.root.proofs.Trials.{moves_halved, small_move}
use Rattle.root.proofs.halved.Goals as goal
use Rattle.root.proofs.halved.Goals.{After-negative_half}

up_fits : (c : After-negative_half) → c.args.m.up < 2 ^ 64
up_fits c = search rules

pub returns : goal.returns
returns c s v =
    let m = c.args.m in
    moves_halved s m.up m.down c.negative_half.result v (c.negative_half.ensures s (small_move s m.up m.down v (up_fits (goal.at.returns c).After-negative_half)) v.none)
