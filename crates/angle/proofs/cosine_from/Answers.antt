-- `cosine_from` meets its contract: the sum is rounded once (`Reaching`).
use mathlib.Core.Path.{ap, ◌∙◌}
use Prim.Native.Nat.{ℕ, ◌^◌}
use lib.Dec.{ltb}
use lib.Ieee.{binary64, round}
use mathlib.Core.Bool.{false}
use Rattle.bits.specs.Rounded.{rounded_of}
use Rattle.angle.proofs.Reaching.{sum_rounded}
use Rattle.angle.proofs.cosine_from.Goals as goal

pub returns : goal.returns
returns c =
    let b = c.args.b in
    c.rounded.ensures ∙ ap (λ (w : ℕ). rounded_of (ltb b.added b.taken) w false 2280) c.from.ensures ∙ sum_rounded (ltb b.added b.taken) c.abs_diff-gap.result ∙ ap (λ (g : ℕ). round binary64 (ltb b.added b.taken) g (2 ^ 60)) c.abs_diff-gap.ensures
