-- Refused; not written; written.
use Rattle.std.proofs.Common.{◌≡◌, ℕ, Ok, Err, refl, arith}
use Rattle.answer.specs.declared.Refusal.{Refusal}
use Rattle.answer.specs.Numbers.{number}
use Rattle.ledger.specs.laws.Refusals.{numbered}
use Rattle.conversion.specs.Conversion.{is_forth, stopped, stopped_of}
use Rattle.std.specs.Result.{is_ok}
use Rattle.files.specs.declared.sending.Output.{Output}
use Rattle.files.specs.Output.{Wrote}
use Rattle.laws.specs.Ascii.{ascii}
use Rattle.loading.specs.Notes.{number_line}
use Rattle.turning.specs.Turning.{rows_line}
use Rattle.turning.proofs.Settling.{none_left, settled_refused, settled_unwritten, settled_written}
use Rattle.turning.proofs.settle.Goals as goal
use Rattle.turning.proofs.settle.Goals.{In_default}

rowed : (n : ℕ) {out end : Output} → Wrote out (number_line (ascii "rows ") n) end → Wrote out (rows_line n) end
unfolding rows_line
rowed n w = w

-- what is refused has a number that is not 0
left : (q : Refusal) (r : ℕ) → (stopped (number q) r).refusal ≡ 0 → ⊥
left q r = numbered q

-- nothing refused the call
converted : (c : In_default) → c.convert.result ≡ Ok tt
converted c = grind arith

pub returns-in-Err : goal.returns-in-Err
unfolding stopped_of
returns-in-Err c =
    let a = c.args in
    let r = c.rows_in-rows in
    let stop = c.in-Err.stop in
    let e : c.convert.result ≡ Err stop = grind arith in
    settled_refused a.sheet.now a.to.now (is_forth a.way) _ c.put_stop.result (stopped (number stop.refusal) stop.row) r.result (rw e at c.convert.ensures.0) r.ensures (left stop.refusal stop.row) (rw c.begin-out.ensures at c.put_stop.ensures)

pub save_sheet-requires : goal.save_sheet-requires
unfolding stopped_of
save_sheet-requires c =
    let a = c.args in
    let f = is_forth a.way in
    let e = converted (goal.at.save_sheet-requires c).In_default in
    record { sheet = a.sheet.now; forth = f; accepted = none_left a.sheet.now f (stopped 0 0) (rw e at c.convert.ensures.0) refl; is = c.convert.ensures.1 }

pub returns-then-is_err : goal.returns-then-is_err
unfolding stopped_of
returns-then-is_err c =
    let a = c.args in
    let r = c.rows_in-rows in
    let w = c.save_sheet in
    let e = converted (goal.at.returns-then-is_err c).In_default in
    settled_unwritten a.sheet.now a.to.now (is_forth a.way) _ c.cannot_write.result (stopped 0 0) r.result (rw e at c.convert.ensures.0) r.ensures refl _ c.convert.ensures.1 (is_ok w.result) w.ensures
    c.if-is_err.ensures.negation (rw c.begin-out.ensures at c.cannot_write.ensures)

pub returns : goal.returns
unfolding stopped_of
returns c =
    let a = c.args in
    let r = c.rows_in-rows in
    let w = c.save_sheet in
    let e = converted (goal.at.returns c).In_default in
    settled_written a.sheet.now a.to.now (is_forth a.way) _ c.put_number.result (stopped 0 0) r.result (rw e at c.convert.ensures.0) r.ensures refl _ c.convert.ensures.1 (is_ok w.result) w.ensures
    c.if-is_err.ensures.negation (rowed r.result (rw c.begin-out.ensures at c.put_number.ensures))
