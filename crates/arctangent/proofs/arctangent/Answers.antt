-- `arctangent` meets its contract: its tests and calls give the steps (`Reaching`), and these lie near the sum (`Near`).
use mathlib.Core.Path.{refl, sym, ap}
use mathlib.Core.Bool.{true, false}
use Rattle.laws.specs.laws.Flags.{holds}
use Rattle.laws.specs.laws.Kinds.{nan_of_lem}
use Rattle.arctangent.specs.Arctangent.{arctangent_of}
use Rattle.arctangent.proofs.Near.{promise}
use Rattle.arctangent.proofs.Reaching.{answered, answered_infinite}
use Rattle.arctangent.proofs.arctangent.Goals as goal

pub returns-then-x : goal.returns-then-x
unfolding arctangent_of
returns-then-x c = promise c.args.x _ (holds c.well_formed.0.1) (ap arctangent_of (sym (nan_of_lem c.args.x c.if-x.true)))

pub returns-in-Some : goal.returns-in-Some
returns-in-Some c =
    let p = c.in-Some.p in
    promise c.args.x _ (holds c.well_formed.0.1) (answered c.args.x true p.negative p.digits p.exponent c.in-Some.ensures refl c.of_parts.result c.of_parts.ensures)

pub returns-in-None : goal.returns-in-None
returns-in-None c = promise c.args.x _ (holds c.well_formed.0.1) (answered_infinite c.args.x false c.if-x.false c.in-None.ensures.kind refl c.difference.result c.difference.ensures)
