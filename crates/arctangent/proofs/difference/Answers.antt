-- `difference` meets its contract: one number, rounded once.
use Rattle.std.proofs.Common.{ℕ, ◌-◌, false, ap, ◌∙◌, lit≤}
use Rattle.bits.specs.Rounded.{rounded_of}
use Rattle.arctangent.specs.laws.Units.{sum_rounded}
use Rattle.arctangent.proofs.difference.Goals as goal

pub returns : goal.returns
returns c =
    let a = c.args in
    c.rounded.ensures ∙ ap (λ (w : ℕ). rounded_of a.negative w false 2277) c.from.ensures ∙ sum_rounded a.negative 63 (a.z.added - a.z.taken) (lit≤ tt)
