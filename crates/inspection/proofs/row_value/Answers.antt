-- The share of what is read.
use mathlib.Core.Path.{ap, ◌∙◌}
use Rattle.ledger.specs.Calls.{share_of}
use Rattle.inspection.proofs.Read.{value_read}
use Rattle.inspection.proofs.row_value.Goals as goal

pub returns : goal.returns
returns c =
    let a = c.args in
    ap (λ z. z.value) c.share_of.ensures ∙ ap (λ w. (share_of w).value) c.read_row.ensures ∙ value_read a.sheet.now a.row
