-- `last_digit` meets its contract (`Trials`).
use Rattle.std.proofs.Common.{◌^◌, ◌<◌, rules}
use Rattle.root.proofs.Trials.{last}
use Rattle.root.proofs.last_digit.Goals as goal
use Rattle.root.proofs.last_digit.Goals.{After-wrapping_sub_u64-left}

left-fits : (c : After-wrapping_sub_u64-left) → c.wrapping_sub_u64-left.result < 2 ^ 64
left-fits c = search rules

pub returns : goal.returns
returns c m t =
    let p = c.args.p in
    last m p.rest p.next c.wrapping_sub_u64-left.result t (left-fits (goal.at.returns c).After-wrapping_sub_u64-left) c.wrapping_sub_u64-left.ensures.value
