-- `once` meets its contract (`Digits`).
use Rattle.std.proofs.Common.{◌^◌, ◌<◌, rules}
use Rattle.remainder.proofs.Digits.{once-kept, once-taken}
use Rattle.remainder.proofs.once.Goals as goal
use Rattle.remainder.proofs.once.Goals.{After-wrapping_sub_u64-left}

left-fits : (c : After-wrapping_sub_u64-left) → c.wrapping_sub_u64-left.result < 2 ^ 64
left-fits c = search rules

pub returns-then-left-eq1 : goal.returns-then-left-eq1
returns-then-left-eq1 c = once-kept c.args.n c.args.y c.wrapping_sub_u64-left.result c.requires.0 c.requires.1 (left-fits (goal.at.returns-then-left-eq1 c).After-wrapping_sub_u64-left) c.wrapping_sub_u64-left.ensures.value c.if-left-eq1.true

pub returns-else-left-eq1 : goal.returns-else-left-eq1
returns-else-left-eq1 c = once-taken c.args.n c.args.y c.wrapping_sub_u64-left.result c.requires.0 c.requires.1 (left-fits (goal.at.returns-else-left-eq1 c).After-wrapping_sub_u64-left) c.wrapping_sub_u64-left.ensures.value c.if-left-eq1.false
