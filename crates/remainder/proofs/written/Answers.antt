-- `written` meets its contract (`Digits`).
use Rattle.std.proofs.Common.{ℕ, ◌+◌, false, ap, ◌∙◌}
use Rattle.bits.specs.Rounded.{rounded_of}
use Rattle.remainder.proofs.Digits.{rounded_rest}
use Rattle.remainder.proofs.written.Goals as goal

pub returns : goal.returns
returns c =
    let a = c.args in
    c.rounded.ensures ∙ ap (λ (w : ℕ). rounded_of a.negative w false (a.exponent + 1266)) c.from.ensures ∙ rounded_rest a.negative a.rest a.exponent
