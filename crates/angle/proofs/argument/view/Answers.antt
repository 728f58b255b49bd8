-- `view` meets its contract: the tests tell which x are refused, and the parts of any other are those of a number at most 4 (`Reaching`).
use mathlib.Core.Path.{sym}
use mathlib.Core.Bool.{true}
use lib.Ieee.{of_bits, neg}
use Rattle.angle.proofs.Reaching.{refused_nan, refused_infinite, refused_far, bounds, viewed}
use Rattle.angle.proofs.argument.view.Goals as goal

pub returns-then-x : goal.returns-then-x
returns-then-x c = λ f. refused_nan f c.args.x c.if-x.true

pub square-requires : goal.square-requires
unfolding of_bits neg
square-requires c =
    let p = c.in-Some.p in
    let b = bounds c.args.x true p.negative p.digits p.exponent c.if-x.false c.if-not-x.true c.in-Some.ensures in
    (b.1, b.2)

pub returns-in-Some : goal.returns-in-Some
unfolding of_bits neg
returns-in-Some c =
    let p = c.in-Some.p in
    viewed c.args.x true p.negative p.digits p.exponent c.if-x.false c.if-not-x.true c.in-Some.ensures c.square.result c.square.ensures

pub returns-in_default : goal.returns-in_default
unfolding of_bits neg
returns-in_default c = λ f. refused_far f c.args.x c.if-x.false c.if-not-x.false

pub returns-in_default-2 : goal.returns-in_default-2
returns-in_default-2 c = λ f. refused_infinite f c.args.x c.if-x.false (sym c.in_default.ensures.kind)
