-- Malformed, or the call on its part of the memory.
use Rattle.std.proofs.Common.{◌∙◌}
use Rattle.ledger.specs.laws.Refusals.{err_number}
use Rattle.runner.proofs.Taking.{edit_none, edit_made}
use Rattle.runner.proofs.lines.edit_line.Goals as goal

pub returns-in_default : goal.returns-in_default
returns-in_default c =
    let a = c.args in
    rw c.between.ensures (edit_none a.k a.size a.sheet.now c.read_edit.ensures c.in_default.is)

pub returns : goal.returns
returns c =
    let a = c.args in
    let n = c.min-n in
    let q = c.edit-done in
    rw (c.between-2.ensures, c.is_err.ensures.value ∙ err_number q.result)
    (edit_made a.k a.size a.sheet.now c.read_edit.ensures _ n.result _ c.in-Some.is
    n.ensures q.ensures.0 q.ensures.1)
