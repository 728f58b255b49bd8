-- No number, too many rows, or the call on its part of the memory.
use Rattle.std.proofs.Common.{◌∙◌}
use Rattle.ledger.specs.laws.Refusals.{err_number}
use Rattle.runner.proofs.Taking.{count_none, count_many, count_made}
use Rattle.runner.proofs.lines.count_line.Goals as goal

pub returns-in_default : goal.returns-in_default
returns-in_default c =
    let a = c.args in
    rw c.between.ensures (count_none a.k a.sheet.now c.decimal.ensures c.in_default.is)

pub returns-then-rows : goal.returns-then-rows
returns-then-rows c =
    let a = c.args in
    rw c.between-then-rows.ensures (count_many a.k a.sheet.now c.decimal.ensures c.in-Some.rows c.in-Some.is c.if-rows.true)

pub returns : goal.returns
returns c =
    let a = c.args in
    let n = c.size_for-n in
    let q = c.make_blank-made in
    rw (c.between-2.ensures, c.is_err.ensures.value ∙ err_number q.result)
    (count_made a.k a.sheet.now c.decimal.ensures c.in-Some.rows _ n.result c.in-Some.is c.if-rows.false n.ensures q.ensures.0 q.ensures.1)
