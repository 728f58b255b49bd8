-- No count, too large a one, or a sheet.
use mathlib.Core.Path.{sym, ◌∙◌}
use native.Mathlib.Omega.{arith}
use Rattle.reading.proofs.Lending.{lent_none, lent_many, lent_sheet, sheet_fits}
use Rattle.reading.proofs.lent.Goals as goal

pub returns-in_default : goal.returns-in_default
returns-in_default c = (lent_none _ (sym c.in_default.is ∙ c.rows.ensures), omega arith)

pub returns-then-n-gt1024 : goal.returns-then-n-gt1024
returns-then-n-gt1024 c = (lent_many _ c.in-Some.n (sym c.in-Some.is ∙ c.rows.ensures) c.if-n-gt1024.true, omega arith)

pub returns : goal.returns
returns c =
    let few = c.if-n-gt1024.false in
    (c.size_for.ensures ∙ lent_sheet _ c.in-Some.n (sym c.in-Some.is ∙ c.rows.ensures) few, rw c.size_for.ensures (sheet_fits c.in-Some.n few))
