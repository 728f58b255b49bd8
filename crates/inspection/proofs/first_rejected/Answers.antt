-- No sheet, or the first of its rows.
use Rattle.std.proofs.Common.{◌≡◌, ◌<◌, ◌≤◌, true, false, not, sym, ◌∙◌, ℕ, arith, rules, tests}
use Rattle.std.proofs.lemmas.Iterator.{first_from_Range}
use Rattle.ledger.specs.laws.Refusals.{sheet_few, sheet_refused, sheet_taken}
use Rattle.inspection.specs.Rows.{sound_row, first_rejected, rejected_row}
use Rattle.inspection.specs.laws.First.{found}
use Rattle.inspection.proofs.first_rejected.Goals as goal

pub returns-then-is_err : goal.returns-then-is_err
unfolding rejected_row
returns-then-is_err c = rw (sheet_refused c.args.sheet.now _ c.total_refusal.ensures (sym c.if-is_err.ensures.value))

pub overflow_cast-rows : goal.overflow_cast-rows
overflow_cast-rows c =
    let s = c.args.sheet.now in
    omega (arith, c.rows_in-rows.ensures, sheet_few s (sheet_taken s _ c.total_refusal.ensures (sym c.if-is_err.ensures.value)))

pub returns : goal.returns
unfolding rejected_row first_rejected
returns c =
    let s = c.args.sheet.now in
    let rejects = λ (i : ℕ). not (sound_row s i) in
    let first = first_from_Range _ _ _ c.find.result (λ i. rejects i ≡ true) (λ i. rejects i ≡ false) c.find.ensures.ran (λ x q k. search (rules, tests)) (λ x q k. search (rules, tests)) in
    rw (sheet_taken s _ c.total_refusal.ensures (sym c.if-is_err.ensures.value), ← c.rows_in-rows.ensures) (grind arith ∙ found rejects _ _ first)
