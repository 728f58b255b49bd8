-- 0 where the row cannot be read; else by its bytes and its sheet's first word.
use Rattle.std.proofs.Common.{sym, ap, ◌∙◌}
use borrow.Author.Tests.{eq-eqb, ne_eqb}
use Rattle.ledger.specs.Sheet.{function_in, times_in}
use Rattle.ledger.specs.Calls.{times_of}
use Rattle.ledger.proofs.Answered.{unreadable, row_read, read_sheet, read-room}
use Rattle.ledger.proofs.row_times.Goals as goal

pub returns-then-is_err : goal.returns-then-is_err
unfolding times_of
returns-then-is_err c = let q = c.row_refusal in rw (unreadable _ _ q.result q.ensures (sym c.if-is_err.ensures.value))

pub row_in-bytes-requires : goal.row_in-bytes-requires
row_in-bytes-requires c = let q = c.row_refusal in read-room _ _ q.result q.ensures (sym c.if-is_err.ensures.value)

pub keeps_times-requires : goal.keeps_times-requires
keeps_times-requires c = let q = c.row_refusal in read_sheet _ _ q.result q.ensures (sym c.if-is_err.ensures.value)

pub returns-then-keeps_times : goal.returns-then-keeps_times
unfolding times_of
returns-then-keeps_times c =
    let q = c.row_refusal in
    rw (row_read _ _ q.result q.ensures (sym c.if-is_err.ensures.value), sym c.keeps_times.ensures ∙ c.if-keeps_times.true) (c.times.ensures ∙ ap times_in c.row_in-bytes.ensures)

pub returns-then-bytes-eq0 : goal.returns-then-bytes-eq0
unfolding times_of function_in
returns-then-bytes-eq0 c =
    let q = c.row_refusal in
    rw (row_read _ _ q.result q.ensures (sym c.if-is_err.ensures.value), sym c.keeps_times.ensures ∙ c.if-keeps_times.false, ← c.row_in-bytes.ensures, eq-eqb _ _ c.if-bytes-eq0.true)

pub returns-else-bytes-eq0 : goal.returns-else-bytes-eq0
unfolding times_of function_in
returns-else-bytes-eq0 c =
    let q = c.row_refusal in
    rw (row_read _ _ q.result q.ensures (sym c.if-is_err.ensures.value), sym c.keeps_times.ensures ∙ c.if-keeps_times.false, ← c.row_in-bytes.ensures, ne_eqb _ _ c.if-bytes-eq0.false)
