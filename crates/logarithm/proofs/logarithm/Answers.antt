-- `logarithm` meets its contract: its tests and calls give the steps (`Factoring`), and these lie near the sum (`Near`).
use mathlib.Core.Path.{refl, sym, ap}
use mathlib.Core.Bool.{true, false}
use Rattle.laws.specs.laws.Flags.{holds}
use Rattle.laws.specs.laws.Kinds.{nan_of_lem}
use Rattle.logarithm.specs.Logarithm.{logarithm_of}
use Rattle.logarithm.proofs.Factoring.{refused, bounds, answered}
use Rattle.logarithm.proofs.Near.{log_promise}
use Rattle.logarithm.proofs.logarithm.Goals as goal

pub returns-then-x : goal.returns-then-x
unfolding logarithm_of
returns-then-x c = log_promise c.args.x _ (holds c.well_formed.0.1) (ap logarithm_of (sym (nan_of_lem c.args.x c.if-x.true)))

pub natural-requires : goal.natural-requires
natural-requires c = let p = c.in-Some.p in (bounds c.args.x true p.negative p.digits p.exponent c.in-Some.ensures c.if-not-p.true).0

pub returns-in-Some : goal.returns-in-Some
returns-in-Some c =
    let p = c.in-Some.p in
    log_promise c.args.x _ (holds c.well_formed.0.1) (answered c.args.x true p.negative p.digits p.exponent c.in-Some.ensures c.if-not-p.true c.natural.result c.natural.ensures)

pub returns-in_default : goal.returns-in_default
returns-in_default c =
    let p = c.in-Some.p in
    log_promise c.args.x _ (holds c.well_formed.0.1) (refused c.args.x true p.negative p.digits p.exponent c.in-Some.ensures c.if-x.false c.if-not-p.false)

pub returns-in_default-2 : goal.returns-in_default-2
returns-in_default-2 c = log_promise c.args.x _ (holds c.well_formed.0.1) (refused c.args.x false false 0 0 c.in_default.ensures c.if-x.false refl)
