-- Test by test, in their order.
use Rattle.std.proofs.Common.{◌≡◌, Some, None, ◌∙◌, refl, sym, ap, arith, rules}
use Rattle.ledger.specs.laws.Refusals.{sheet_of_few}
use Rattle.inspection.specs.laws.First.{found_some, found_none}
use Rattle.conversion.specs.declared.Way.TheVariants.{Forth, Back}
use Rattle.conversion.specs.Conversion.{is_forth, says_before, stopped_of}
use Rattle.conversion.proofs.Refused.{said, stop_7, stop_10, stop-counts, stop-none, stop_17, stop_0}
use Rattle.conversion.proofs.refusal.Goals as goal

pub returns-then-not-says : goal.returns-then-not-says
unfolding stopped_of
returns-then-not-says c =
    let a = c.args in
    stop_7 (is_forth a.way) a.sheet.now (said a.sheet.now (is_forth a.way) _ _ c.word_before.ensures c.says.ensures ∙ c.if-not-says.true)

pub overflow_cast-rows : goal.overflow_cast-rows
overflow_cast-rows c =
    let a = c.args in
    let h = said a.sheet.now (is_forth a.way) _ _ c.word_before.ensures c.says.ensures ∙ c.if-not-says.false in
    omega (arith, c.rows_in-rows.ensures, sheet_of_few (says_before (is_forth a.way)) a.sheet.now h)

pub returns-in-Some : goal.returns-in-Some
unfolding stopped_of
returns-in-Some c =
    let a = c.args in
    let h = said a.sheet.now (is_forth a.way) _ _ c.word_before.ensures c.says.ensures ∙ c.if-not-says.false in
    let k = found_some _ _ _ c.first_rejected-damaged.ensures _ c.in-Some.is in
    stop_10 (is_forth a.way) a.sheet.now h _ _ c.rows_in-rows.ensures k.0 (rw k.0 k.1)

pub returns-then-is_uncounted : goal.returns-then-is_uncounted
unfolding stopped_of
returns-then-is_uncounted c =
    let a = c.args in
    let h = said a.sheet.now (is_forth a.way) _ _ c.word_before.ensures c.says.ensures ∙ c.if-not-says.false in
    let k = found_none _ _ _ c.first_rejected-damaged.ensures c.in_default.is in
    stop-counts (is_forth a.way) a.sheet.now h _ _ c.rows_in-rows.ensures refl k (sym c.is_uncounted.ensures ∙ c.if-is_uncounted.true)

pub returns-then-eq : goal.returns-then-eq
unfolding stopped_of is_forth
returns-then-eq c =
    let a = c.args in
    let h = said a.sheet.now (is_forth a.way) _ _ c.word_before.ensures c.says.ensures ∙ c.if-not-says.false in
    let k = found_none _ _ _ c.first_rejected-damaged.ensures c.in_default.is in
    let f : a.way ≡ Forth = search rules in
    stop-none (is_forth a.way) a.sheet.now h _ _ c.rows_in-rows.ensures refl k (sym c.is_uncounted.ensures ∙ c.if-is_uncounted.false) (ap is_forth f)

pub returns-in-Some-often : goal.returns-in-Some-often
unfolding stopped_of is_forth
returns-in-Some-often c =
    let a = c.args in
    let h = said a.sheet.now (is_forth a.way) _ _ c.word_before.ensures c.says.ensures ∙ c.if-not-says.false in
    let k = found_none _ _ _ c.first_rejected-damaged.ensures c.in_default.is in
    let e : c.first_oftener-often.result ≡ Some c.in-Some-often.row = grind arith in
    let o = found_some _ _ _ c.first_oftener-often.ensures _ e in
    let f : a.way ≡ Back = search rules in
    stop_17 (is_forth a.way) a.sheet.now h _ _ c.rows_in-rows.ensures refl k (sym c.is_uncounted.ensures ∙ c.if-is_uncounted.false) (ap is_forth f) _ o.0 (rw o.0 o.1)

pub returns-in-None : goal.returns-in-None
unfolding stopped_of is_forth
returns-in-None c =
    let a = c.args in
    let h = said a.sheet.now (is_forth a.way) _ _ c.word_before.ensures c.says.ensures ∙ c.if-not-says.false in
    let k = found_none _ _ _ c.first_rejected-damaged.ensures c.in_default.is in
    let e : c.first_oftener-often.result ≡ None = grind arith in
    let o = found_none _ _ _ c.first_oftener-often.ensures e in
    let f : a.way ≡ Back = search rules in
    stop_0 (is_forth a.way) a.sheet.now h _ _ c.rows_in-rows.ensures refl k (sym c.is_uncounted.ensures ∙ c.if-is_uncounted.false) (ap is_forth f) _ refl o
