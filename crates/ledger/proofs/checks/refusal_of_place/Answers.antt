-- Test by test, in their order.
use Rattle.std.proofs.Common.{◌≡◌, Bool, true, sym, ap, refl, ◌∙◌, List, ℕ, ◌<◌, Err}
use Rattle.std.proofs.lemmas.Result.{err_from_is_err_and}
use Rattle.answer.specs.Answer.{refusal_of}
use Rattle.ledger.specs.Sheet.{with_times, function_in}
use Rattle.ledger.specs.Calls.{rows_in, is_sheet_of, row_rungs}
use Rattle.ledger.specs.laws.Refusals.{refused, past_row, sheet_of_length}
use Rattle.ledger.proofs.Tested.{place-row, place_function, place_new, place_old, place_0}
use Rattle.ledger.proofs.checks.refusal_of_place.Goals as goal

module _ (s : List ℕ) (i q : ℕ) (taken : Bool) (e : q ≡ row_rungs taken (rows_in s) i) (d : taken ≡ is_sheet_of with_times s) where
  told : q ≡ row_rungs (is_sheet_of with_times s) (rows_in s) i
  told = e ∙ ap (λ (t : Bool). row_rungs t (rows_in s) i) d

  asked : q ≡ 0 → (is_sheet_of with_times s ≡ true) × (i < rows_in s)
  asked h = past_row (is_sheet_of with_times s) (rows_in s) i (sym told ∙ h)

pub returns-in_err-refusal_in : goal.returns-in_err-refusal_in
returns-in_err-refusal_in c =
    let a = c.args in
    let p = err_from_is_err_and c.from_residual.result c.from_residual.ensures.1 in
    let q = told a.s.now a.row _ _ c.in_err-refusal_in.ensures c.says.ensures in
    rw (p.1, p.2) (q ∙ place-row a.s.now a.row a.new.now (refused _ _ q refl))

pub returns-in_err-refusal_of_function : goal.returns-in_err-refusal_of_function
unfolding refusal_of function_in
returns-in_err-refusal_of_function c =
    let a = c.args in
    let r = c.from_residual-in_err-refusal_of_function in
    let p = err_from_is_err_and r.result r.ensures.1 in
    let k = asked a.s.now a.row _ _ c.in_ok-refusal_in.ensures c.says.ensures refl in
    let q = c.in_err-refusal_of_function.ensures in
    rw (p.1, p.2) (q ∙ place_function a.s.now a.row a.new.now k.0 k.1 (refused {A = Unit {0}} (Err c.in_err-refusal_of_function.field-0.0) _ q refl))

pub returns-then-not-is_sound : goal.returns-then-not-is_sound
unfolding refusal_of function_in
returns-then-not-is_sound c =
    let a = c.args in
    let k = asked a.s.now a.row _ _ c.in_ok-refusal_in.ensures c.says.ensures refl in
    place_new a.s.now a.row a.new.now k.0 k.1 (sym c.in_ok-refusal_of_function.ensures) (sym c.is_sound.ensures ∙ c.if-not-is_sound.true)

pub is_damaged-requires : goal.is_damaged-requires
unfolding refusal_of
is_damaged-requires c =
    let a = c.args in
    let k = asked a.s.now a.row _ _ c.in_ok-refusal_in.ensures c.says.ensures refl in
    (sheet_of_length with_times a.s.now k.0, k.1)

pub returns-then-is_damaged : goal.returns-then-is_damaged
unfolding refusal_of function_in
returns-then-is_damaged c =
    let a = c.args in
    let k = asked a.s.now a.row _ _ c.in_ok-refusal_in.ensures c.says.ensures refl in
    place_old a.s.now a.row a.new.now k.0 k.1 (sym c.in_ok-refusal_of_function.ensures) (sym c.is_sound.ensures ∙ c.if-not-is_sound.false) (sym c.is_damaged.ensures ∙ c.if-is_damaged.true)

pub returns : goal.returns
unfolding refusal_of function_in
returns c =
    let a = c.args in
    let k = asked a.s.now a.row _ _ c.in_ok-refusal_in.ensures c.says.ensures refl in
    place_0 a.s.now a.row a.new.now k.0 k.1 (sym c.in_ok-refusal_of_function.ensures) (sym c.is_sound.ensures ∙ c.if-not-is_sound.false) (sym c.is_damaged.ensures ∙ c.if-is_damaged.false)
