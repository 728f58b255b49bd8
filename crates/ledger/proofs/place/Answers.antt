-- Refused, with no byte changed, or stored.
use Rattle.std.proofs.Common.{Ok, refl, sym, ap, ◌∙◌}
use Rattle.std.proofs.lemmas.Result.{err_from_is_err_and}
use Rattle.answer.specs.Answer.{refusal_of}
use Rattle.ledger.specs.Bytes.{fields}
use Rattle.ledger.specs.Sheet.{with_times, sound}
use Rattle.ledger.specs.Calls.{place_refusal, edited}
use Rattle.ledger.specs.laws.Refusals.{placed, sheet_of_length, sheet_of_few}
use Rattle.ledger.proofs.Answered.{place_refused, place-stored}
use Rattle.ledger.proofs.place.Goals as goal

pub returns-in_err-refusal_of_place : goal.returns-in_err-refusal_of_place
returns-in_err-refusal_of_place c =
    let a = c.args in
    let p = err_from_is_err_and c.from_residual.result c.from_residual.ensures.1 in
    let q = c.in_err-refusal_of_place.ensures ∙ ap (place_refusal a.sheet.now a.row) c.row_of-new.ensures in
    rw (p.1, p.2) (q, place_refused a.sheet.now a.row (fields 8 a.words) _ q refl)

pub store-requires : goal.store-requires
unfolding refusal_of
store-requires c =
    let a = c.args in
    let s = a.sheet.now in
    let w = fields 8 a.words in
    let k = placed s a.row w (sym (c.in_ok-refusal_of_place.ensures ∙ ap (place_refusal s a.row) c.row_of-new.ensures)) in
    (sheet_of_length with_times s k.0.sheet, sheet_of_few with_times s k.0.sheet, k.0.row, k.0.whole, ap sound c.row_of-new.ensures ∙ k.1)

pub returns : goal.returns
unfolding refusal_of
returns c =
    let a = c.args in
    let q = c.in_ok-refusal_of_place.ensures ∙ ap (place_refusal a.sheet.now a.row) c.row_of-new.ensures in
    (q, place-stored a.sheet.now a.row (fields 8 a.words) (Ok tt) q refl c.store.new.sheet (c.store.ensures ∙ ap (edited a.sheet.now a.row) c.row_of-new.ensures))
