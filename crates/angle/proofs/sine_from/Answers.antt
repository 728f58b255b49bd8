-- `sine_from` meets its contract: the product is exact, and rounded once (`Reaching`).
use mathlib.Core.Path.{ap₂, ◌∙◌}
use mathlib.Core.Bool.{Bool, not, beq}
use lib.Dec.{ltb}
use Prim.Native.Nat.{ℕ, ◌*◌, ◌^◌}
use lib.Ieee.{binary64, round}
use Rattle.angle.proofs.Reaching.{signs, product_rounded}
use Rattle.angle.proofs.sine_from.Goals as goal

pub returns : goal.returns
returns c =
    let a = c.args.a in
    c.rounded.ensures
    ∙ product_rounded (not (beq a.negative (ltb c.args.b.added c.args.b.taken))) a.digits a.exponent c.abs_diff.result c.product-v.result c.product-v.ensures
    ∙ ap₂ (λ (s : Bool) (g : ℕ). round binary64 s (a.digits * 2 ^ a.exponent * g) (2 ^ 1074 * 2 ^ 60)) (signs a.negative _) c.abs_diff.ensures
