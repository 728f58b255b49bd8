-- Refused, with nothing handed out, or the row.
use mathlib.Core.Path.{sym}
use Rattle.ledger.specs.Calls.{read_of}
use Rattle.ledger.proofs.Answered.{unreadable, row_read, read-room}
use Rattle.ledger.proofs.read_row.Goals as goal

pub returns-then-is_err : goal.returns-then-is_err
unfolding read_of
returns-then-is_err c = let q = c.row_refusal in rw (unreadable _ _ q.result q.ensures (sym c.if-is_err.ensures.value))

pub row_part-requires : goal.row_part-requires
row_part-requires c = let q = c.row_refusal in read-room _ _ q.result q.ensures (sym c.if-is_err.ensures.value)

pub returns : goal.returns
unfolding read_of
returns c = let q = c.row_refusal in rw (row_read _ _ q.result q.ensures (sym c.if-is_err.ensures.value)) c.row_part.ensures
