-- Any sheet is taken.
use mathlib.Core.Path.{◌∙◌, ap}
use mathlib.Core.Bool.{Bool}
use Rattle.ledger.specs.Calls.{rows_in, row_rungs, row_refusal}
use Rattle.ledger.proofs.checks.row_refusal.Goals as goal

pub returns : goal.returns
unfolding row_refusal
returns c =
    let a = c.args in
    c.refusal_in.ensures ∙ ap (λ (taken : Bool). row_rungs taken (rows_in a.sheet.now) a.row) c.is_sheet.ensures
