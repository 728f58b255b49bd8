-- Each test shows a rung passed.
use Rattle.std.proofs.Common.{◌∙◌, sym}
use Rattle.std.proofs.lemmas.Result.{err_from_is_err_and}
use Rattle.ledger.specs.laws.Refusals.{sheet_refused, sheet_taken}
use Rattle.difference.proofs.Stops.{stop_old, stop_new, stop-counts, stop_old_row, stop_new_row}
use Rattle.difference.proofs.stopped.Goals as goal

pub rows_taken-requires : goal.rows_taken-requires
rows_taken-requires c = sheet_taken _ _ c.total_refusal.ensures (sym c.if-is_err.ensures.value)

pub rows_taken-requires-2 : goal.rows_taken-requires-2
rows_taken-requires-2 c = sheet_taken _ _ c.total_refusal-2.ensures (sym c.if-is_err-2.ensures.value)

pub returns-then-is_err : goal.returns-then-is_err
returns-then-is_err c = stop_old _ _ (sheet_refused _ _ c.total_refusal.ensures (sym c.if-is_err.ensures.value))

pub returns-then-is_err-2 : goal.returns-then-is_err-2
returns-then-is_err-2 c = stop_new _ _ (sheet_taken _ _ c.total_refusal.ensures (sym c.if-is_err.ensures.value)) (sheet_refused _ _ c.total_refusal-2.ensures (sym c.if-is_err-2.ensures.value))

pub returns-then-rows_in : goal.returns-then-rows_in
returns-then-rows_in c =
    let a = sheet_taken _ _ c.total_refusal.ensures (sym c.if-is_err.ensures.value) in
    let b = sheet_taken _ _ c.total_refusal-2.ensures (sym c.if-is_err-2.ensures.value) in
    stop-counts _ _ a b (λ e. c.if-rows_in.true (c.rows_in.ensures ∙ e ∙ sym c.rows_in-2.ensures))

pub returns-in_err-rows_taken : goal.returns-in_err-rows_taken
returns-in_err-rows_taken c =
    let a = sheet_taken _ _ c.total_refusal.ensures (sym c.if-is_err.ensures.value) in
    let b = sheet_taken _ _ c.total_refusal-2.ensures (sym c.if-is_err-2.ensures.value) in
    let r = sym c.rows_in.ensures ∙ c.if-rows_in.false ∙ c.rows_in-2.ensures in
    let p = err_from_is_err_and c.from_residual.result c.from_residual.ensures.1 in
    rw (p.1, p.2) (stop_old_row _ _ a b r _ (sym c.rows_taken.ensures ∙ c.in_err-rows_taken.was))

pub returns : goal.returns
returns c =
    let a = sheet_taken _ _ c.total_refusal.ensures (sym c.if-is_err.ensures.value) in
    let b = sheet_taken _ _ c.total_refusal-2.ensures (sym c.if-is_err-2.ensures.value) in
    let r = sym c.rows_in.ensures ∙ c.if-rows_in.false ∙ c.rows_in-2.ensures in
    c.rows_taken-2.ensures ∙ stop_new_row _ _ a b r _ (sym c.rows_taken.ensures ∙ c.in_ok-rows_taken.was)
