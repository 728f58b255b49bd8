-- No line, a line that is not taken, or an edit.
use mathlib.Core.Path.{◌≡◌, refl, sym, ap, ◌∙◌}
use Prim.Native.Nat.{ℕ, ◌+◌}
use mathlib.Core.List.{List}
use borrow.Author.Tests.{le-leb, lt-leb, ne_eqb}
use Rattle.answer.specs.Answer.{refusal_of}
use Rattle.answer.specs.Numbers.{number}
use Rattle.sheet.specs.declared.Entry.{Entry}
use Rattle.sheet.specs.Edit.{edit_refusal, edit_of}
use Rattle.std.proofs.lemmas.Result.{err_from_is_err_and}
use Rattle.hexline.specs.Parts.{part_at}
use Rattle.hextext.specs.HexText.{halt_at, fine, halt_of, entry_of, line_halt, came, told, line_into}
use Rattle.ledger.specs.laws.Refusals.{numbered}
use Rattle.hextext.proofs.read_line.Goals as goal

pub returns-then-text-at : goal.returns-then-text-at
unfolding line_into told halt_of
returns-then-text-at c = rw (le-leb _ _ c.if-text-at.true, c.malformed.ensures) refl

pub returns-in_err-line_halt : goal.returns-in_err-line_halt
unfolding line_into told halt_of
returns-in_err-line_halt c =
    let a = c.args in
    let e = c.in_err-line_halt.field-0.0 in
    let h : halt_at (number e.refusal) e.line e.column ≡ line_halt (a.i + 2) (part_at 10 a.text.now a.at) =
    c.in_err-line_halt.ensures ∙ ap (line_halt (a.i + 2)) c.part-line.ensures in
    let p = err_from_is_err_and c.from_residual.result c.from_residual.ensures.1 in
    let bad = ne_eqb (number e.refusal) 0 (numbered e.refusal) in
    rw (p.1, p.2) (rw (lt-leb _ _ c.if-text-at.false) (rw (← h, bad) (rw bad refl)))

pub returns-in-Ok : goal.returns-in-Ok
unfolding line_into told halt_of refusal_of
returns-in-Ok c =
    let a = c.args in
    let line = c.part-line.ensures in
    let h = c.in_ok-line_halt.ensures ∙ ap (line_halt (a.i + 2)) line in
    let e = c.entry.ensures ∙ ap entry_of line in
    let q = c.in-Ok.ensures in
    let z = sym (q.0 ∙ ap (λ (x : Entry). edit_refusal a.sheet.now a.i x.function) e) in
    rw (lt-leb _ _ c.if-text-at.false) (rw (← h) (rw z (ap (λ (s : List ℕ). came s fine) (q.1 ∙ ap (edit_of a.sheet.now a.i) e))))

pub returns-in-Err : goal.returns-in-Err
unfolding line_into told halt_of refusal_of
returns-in-Err c =
    let a = c.args in
    let line = c.part-line.ensures in
    let h = c.in_ok-line_halt.ensures ∙ ap (line_halt (a.i + 2)) line in
    let e = c.entry.ensures ∙ ap entry_of line in
    let q = c.in-Err.ensures in
    let r = c.in-Err.refusal in
    let z = sym (q.0 ∙ ap (λ (x : Entry). edit_refusal a.sheet.now a.i x.function) e) in
    rw (lt-leb _ _ c.if-text-at.false)
    (rw (← h)
    (rw (z, ne_eqb (number r) 0 (numbered r)) (ap (λ (s : List ℕ). came s (halt_at (number r) (a.i + 2) 0)) (q.1 ∙ ap (edit_of a.sheet.now a.i) e))))
