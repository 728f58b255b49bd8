-- No sheet, or the count and the rows.
use Rattle.std.proofs.Common.{subst, sym, ℕ, arith}
use Rattle.ledger.specs.laws.Refusals.{sheet_few, sheet_taken, sheet_refused}
use Rattle.hexpage.specs.HexPage.{row_lines, text_of}
use Rattle.files.specs.Output.{Wrote}
use Rattle.files.specs.laws.Outputs.{wrote_both}
use Rattle.writing.specs.Writing.{written_text}
use Rattle.writing.proofs.write.Goals as goal

pub returns-then-is_err : goal.returns-then-is_err
unfolding written_text
returns-then-is_err c =
    let q = c.total_refusal in
    rw (sheet_refused c.args.sheet.now q.result q.ensures (sym c.if-is_err.ensures.value)) (rw c.begin.ensures at c.refused_7.ensures)

pub overflow_cast-rows : goal.overflow_cast-rows
overflow_cast-rows c =
    let s = c.args.sheet.now in
    let q = c.total_refusal in
    omega (arith, c.rows_in-rows.ensures, sheet_few s (sheet_taken s q.result q.ensures (sym c.if-is_err.ensures.value)))

pub returns : goal.returns
unfolding written_text text_of
returns c =
    let s = c.args.sheet.now in
    let q = c.total_refusal in
    rw (sheet_taken s q.result q.ensures (sym c.if-is_err.ensures.value))
    (wrote_both (rw c.begin-2.ensures at c.send_count-sent.ensures) (subst (λ (n : ℕ). Wrote c.send_count-sent.result (row_lines s n) c.send_rows.result) c.rows_in-rows.ensures c.send_rows.ensures))
