-- Refused, or the lines and the end.
use Rattle.std.proofs.Common.{◌≡◌, refl, sym, subst, ◌∙◌, Bool, true, false, List, ℕ, arith, Ok}
use Rattle.std.specs.Prelude.{Result, ⊤}
use Rattle.ledger.specs.Calls.{is_sheet}
use Rattle.ledger.specs.laws.Refusals.{sheet_few}
use Rattle.difference.specs.declared.Stop.{Stop}
use Rattle.difference.specs.Difference.{stop_of}
use Rattle.differing.specs.Differing.{lines_of, text_of}
use Rattle.files.specs.declared.sending.Output.{Output}
use Rattle.files.specs.Output.{Wrote}
use Rattle.files.specs.laws.Outputs.{wrote_both}
use Rattle.comparing.specs.Comparing.{said_of, compared_text}
use Rattle.comparing.proofs.compare.Goals as goal

-- what is not refused is a sheet
taken_sheet : (s t : List ℕ) (u : ⊤) → stop_of s t ≡ Ok u → is_sheet s ≡ true
unfolding stop_of
taken_sheet s t u e = by (is_sheet s) refl where
  by : (b : Bool) → is_sheet s ≡ b → is_sheet s ≡ true
  by true h = h
  by false h = let z = rw h at e in cc

-- as the tests came out
said : (old new s t : List ℕ) {q : Result ⊤ Stop} {o u : Output} → stop_of s t ≡ q → Wrote o (said_of old new s t q) u → Wrote o (compared_text old new s t) u
unfolding compared_text
said old new s t {o = o} {u = u} e w = subst (λ (r : Result ⊤ Stop). Wrote o (said_of old new s t r) u) (sym e) w

pub returns-in-Err : goal.returns-in-Err
returns-in-Err c =
    let a = c.args in
    said a.first.now a.second.now a.old.now a.new.now (sym c.stopped.ensures ∙ c.in-Err.is) (rw c.begin-out.ensures at c.send_refusal.ensures)

pub overflow_cast-rows : goal.overflow_cast-rows
overflow_cast-rows c =
    omega (arith, c.rows_in-rows.ensures, sheet_few c.args.old.now (taken_sheet c.args.old.now c.args.new.now _ (sym c.stopped.ensures ∙ c.in_default.is)))

pub returns : goal.returns
unfolding text_of
returns c =
    let a = c.args in
    said a.first.now a.second.now a.old.now a.new.now (sym c.stopped.ensures ∙ c.in_default.is)
    (wrote_both (rw (c.begin-out.ensures, c.rows_in-rows.ensures) at c.send_lines-sent.ensures) c.send_end.ensures)
