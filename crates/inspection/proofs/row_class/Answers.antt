-- The share of what is read.
use mathlib.Core.Path.{ap, ◌∙◌}
use Rattle.ledger.specs.Calls.{share_of}
use Rattle.inspection.proofs.Read.{class-read}
use Rattle.inspection.proofs.row_class.Goals as goal

pub returns : goal.returns
returns c =
    let a = c.args in
    ap (λ z. z.class) c.share_of.ensures ∙ ap (λ w. (share_of w).class) c.read_row.ensures ∙ class-read a.sheet.now a.row
