-- Test by test.
use Rattle.answer.specs.Answer.{refusal_of}
use Rattle.ledger.specs.Calls.{rows_in}
use Rattle.ledger.proofs.Tested.{row_7, row_8, row_0}
use Rattle.ledger.proofs.checks.refusal_in.Goals as goal

pub returns-then-not-taken : goal.returns-then-not-taken
unfolding refusal_of
returns-then-not-taken c = let a = c.args in row_7 a.taken (rows_in a.s.now) a.row c.if-not-taken.true

pub returns-then-row-rows_in : goal.returns-then-row-rows_in
unfolding refusal_of
returns-then-row-rows_in c =
    let a = c.args in
    row_8 a.taken (rows_in a.s.now) a.row c.if-not-taken.false (rw (← c.rows_in.ensures) c.if-row-rows_in.true)

pub returns : goal.returns
unfolding refusal_of
returns c =
    let a = c.args in
    row_0 a.taken (rows_in a.s.now) a.row c.if-not-taken.false (rw (← c.rows_in.ensures) c.if-row-rows_in.false)
