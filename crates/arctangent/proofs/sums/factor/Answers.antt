-- `factor` meets its contract: each call is a step of `factor_of` (`Reaching`), and t ≤ 1/4 keeps its fourth power small.
use Prim.Native.Nat.{◌^◌, ◌≤◌}
use lib.Dec.{lit<}
use Rattle.arctangent.proofs.Reaching.{fourth_small, is_factor}
use Rattle.arctangent.proofs.sums.factor.Goals as goal
use Rattle.arctangent.proofs.sums.factor.Goals.{After-upper-u}

small : (c : After-upper-u) → c.upper-u.result ≤ 2 ^ 60
small c =
    let w = c.before in
    let s = w.before in
    fourth_small s.args.t w.upper-w.result c.upper-u.result s.requires w.upper-w.ensures c.upper-u.ensures

pub run-requires : goal.run-requires
run-requires c = (small (goal.at.run-requires c).After-upper-u, lit< tt, lit< tt)

pub run-requires-2 : goal.run-requires-2
run-requires-2 c = (small (goal.at.run-requires-2 c).After-upper-u, lit< tt, lit< tt)

pub returns : goal.returns
returns c =
    is_factor c.args.t c.upper-w.result c.upper-u.result c.run.result c.run-2.result c.upper.result c.upper-w.ensures c.upper-u.ensures c.run.ensures c.run-2.ensures c.upper.ensures
