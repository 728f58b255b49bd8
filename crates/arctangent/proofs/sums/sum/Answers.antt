-- `sum` meets its contract: t times either side of the factor.
use mathlib.Core.Path.{◌∙◌, ap, ap₂}
use Prim.Native.Nat.{◌*◌, ◌/◌, ◌^◌}
use Rattle.arctangent.specs.Arctangent.{sides}
use Rattle.arctangent.specs.declared.sums.Sides.{Sides}
use Rattle.arctangent.proofs.sums.sum.Goals as goal

pub returns : goal.returns
returns c =
    let t = c.args.t in
    ap₂ sides c.upper.ensures c.upper-2.ensures ∙ ap (λ (z : Sides). sides (t * z.added / 2 ^ 64) (t * z.taken / 2 ^ 64)) c.factor-f.ensures
