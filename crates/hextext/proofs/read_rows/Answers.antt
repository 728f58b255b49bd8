-- What is left to read, from where it stands, is all of it.
use mathlib.Core.Path.{◌≡◌, refl, ap, ◌∙◌}
use native.Mathlib.Nat.{sub-zero}
use native.Mathlib.Omega.{arith}
use Rattle.std.proofs.lemmas.Result.{err_from_is_err_and}
use Rattle.answer.specs.Numbers.{number}
use Rattle.hextext.specs.HexText.{halt_at, halt_of}
use Rattle.ledger.specs.laws.Refusals.{numbered}
use Rattle.hextext.proofs.OneByOne.{halts, goes_on_lem, too_many, at-end}
use Rattle.hextext.proofs.read_rows.Goals as goal

pub loop-i-init : goal.loop-i-init
loop-i-init c = rw sub-zero refl

pub returns-in_err-read_line : goal.returns-in_err-read_line
unfolding halt_of
returns-in_err-read_line c =
    let l = c.loop-i in
    let a = c.args in
    let e = c.in_err-read_line.field-0.0 in
    let p = err_from_is_err_and c.from_residual.result c.from_residual.ensures.1 in
    rw (p.1, p.2)
    (halts a.text.now l.sheet a.rows l.i l.at c.loop-i-test.true _ (halt_at (number e.refusal) e.line e.column) c.in_err-read_line.ensures (numbered e.refusal)
    ∙ l.invariant)

pub loop-i-preserved : goal.loop-i-preserved
unfolding halt_of
loop-i-preserved c =
    let l = c.loop-i in
    let a = c.args in
    rw c.next-at.ensures (goes_on_lem a.text.now l.sheet a.rows l.i l.at c.loop-i-test.true _ c.in_ok-read_line.ensures ∙ l.invariant)

pub returns-then-at-text : goal.returns-then-at-text
unfolding halt_of
returns-then-at-text c =
    let l = c.loop-i in
    let a = c.args in
    rw c.malformed.ensures (too_many a.text.now l.sheet a.rows l.i l.at (omega arith) c.if-at-text.true ∙ l.invariant)

pub returns : goal.returns
unfolding halt_of
returns c =
    let l = c.loop-i in
    let a = c.args in
    at-end a.text.now l.sheet a.rows l.i l.at (omega arith) c.if-at-text.false ∙ l.invariant
