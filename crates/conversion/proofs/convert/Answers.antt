-- Refused, with no byte changed, or the first word and the rows written.
use Rattle.std.proofs.Common.{◌≡◌, ◌≤◌, Err, ap, ◌∙◌, sym, arith, length}
use Rattle.std.proofs.lemmas.Result.{err_from_is_err_and}
use Rattle.ledger.specs.laws.Refusals.{numbered}
use Rattle.conversion.specs.Conversion.{Stopped, is_forth, stopped, stop_of, stopped_of}
use Rattle.conversion.specs.laws.Accepted.{converted_is}
use Rattle.conversion.proofs.Turning.{sheet_turned, may_turn, unconverted, word_length}
use Rattle.conversion.proofs.convert.Goals as goal

pub returns-in_err-refusal : goal.returns-in_err-refusal
unfolding stopped_of
returns-in_err-refusal c =
    let a = c.args in
    let p = err_from_is_err_and c.from_residual.result c.from_residual.ensures.1 in
    let e : stopped_of (Err p.0) ≡ stop_of (is_forth a.way) a.sheet.now = grind arith in
    rw p.1 (e, unconverted (is_forth a.way) a.sheet.now (λ z. numbered _ (ap (λ (t : Stopped). t.refusal) e ∙ z)))

pub overflow_cast-rows : goal.overflow_cast-rows
unfolding stopped_of
overflow_cast-rows c =
    let a = c.args in
    let z : (stop_of (is_forth a.way) a.sheet.now).refusal ≡ 0 = grind arith in
    omega (arith, c.rows_in-rows.ensures, (may_turn (is_forth a.way) a.sheet.now z).0)

pub say-requires : goal.say-requires
unfolding stopped_of
say-requires c =
    let a = c.args in
    let z : (stop_of (is_forth a.way) a.sheet.now).refusal ≡ 0 = grind arith in
    omega (arith, (may_turn (is_forth a.way) a.sheet.now z).1)

pub turn_rows-requires : goal.turn_rows-requires
unfolding stopped_of
turn_rows-requires c =
    let a = c.args in
    let z : (stop_of (is_forth a.way) a.sheet.now).refusal ≡ 0 = grind arith in
    let m = may_turn (is_forth a.way) a.sheet.now z in
    omega (arith, c.rows_in-rows.ensures, m.1, word_length a.sheet.now _ _ c.say.ensures (let l : 4 ≤ length a.sheet.now = omega (arith, m.1) in l))

pub returns : goal.returns
unfolding stopped_of
returns c =
    let a = c.args in
    let n : stopped 0 0 ≡ stop_of (is_forth a.way) a.sheet.now = grind arith in
    (grind arith ∙ n, c.turn_rows.ensures ∙ sheet_turned (is_forth a.way) a.sheet.now _ _ _ c.word_after.ensures c.rows_in-rows.ensures c.say.ensures ∙ sym (converted_is (is_forth a.way) a.sheet.now (sym (ap (λ (t : Stopped). t.refusal) n))))
