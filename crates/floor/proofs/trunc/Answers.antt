-- `trunc` meets its contract: below 2 ^ 52 by the value's parts, and else it stays (`Wholes`).
use Rattle.std.proofs.Common.{◌∙◌}
use Rattle.laws.specs.laws.Flags.{holds}
use Rattle.floor.specs.Floor.{trunc_of}
use Rattle.whole.specs.laws.Wholes.{picked, far, no_parts}
use Rattle.floor.specs.laws.Picking.{trunc_picks}
use Rattle.floor.proofs.trunc.Goals as goal

pub returns-in-Some : goal.returns-in-Some
returns-in-Some c =
    let p = c.in-Some.p in
    c.signed.ensures ∙ picked trunc_of _ trunc_picks c.args.x p.negative p.digits p.exponent c.in-Some.ensures c.if-p-lt1074.true c.lower.result c.lower.ensures.0

pub returns-in_default : goal.returns-in_default
returns-in_default c = let p = c.in-Some.p in far trunc_of _ trunc_picks c.args.x p.negative p.digits p.exponent c.in-Some.ensures (holds c.well_formed.0.1) c.if-p-lt1074.false

pub returns-in_default-2 : goal.returns-in_default-2
returns-in_default-2 c = no_parts trunc_of _ trunc_picks c.args.x c.in_default.ensures
