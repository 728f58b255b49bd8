-- Where the text halts; or it fills the buffer.
use mathlib.Core.Path.{refl, ap}
use borrow.Author.Tests.{ne_eqb, le-leb, lt-leb}
use Rattle.std.proofs.lemmas.Result.{err_from_is_err_and}
use Rattle.answer.specs.Numbers.{number}
use Rattle.ledger.specs.laws.Refusals.{numbered}
use Rattle.hextext.specs.HexText.{Came, halt_of}
use Rattle.reading.specs.Taken.{taken_of, end_of}
use Rattle.reading.proofs.take.Goals as goal

pub returns-in_err-read_text : goal.returns-in_err-read_text
unfolding taken_of end_of halt_of
returns-in_err-read_text c =
    let t = rw c.requires at c.in_err-read_text.ensures in
    let e = c.in_err-read_text.field-0.0 in
    let p = err_from_is_err_and c.from_residual.result c.from_residual.ensures.1 in
    rw (p.1, p.2) (rw (← ap (λ (x : Came). x.end) t, ne_eqb (number e.refusal) 0 (numbered e.refusal)) refl, ap (λ (x : Came). x.sheet) t)

pub returns-then-text-ge-MOST_TEXT : goal.returns-then-text-ge-MOST_TEXT
unfolding taken_of end_of halt_of
returns-then-text-ge-MOST_TEXT c =
    let t = rw c.requires at c.in_ok-read_text.ensures in
    (rw (← ap (λ (x : Came). x.end) t, le-leb _ _ c.if-text-ge-MOST_TEXT.true) refl, ap (λ (x : Came). x.sheet) t)

pub returns : goal.returns
unfolding taken_of end_of halt_of
returns c =
    let t = rw c.requires at c.in_ok-read_text.ensures in
    (rw (← ap (λ (x : Came). x.end) t, lt-leb _ _ c.if-text-ge-MOST_TEXT.false) refl, ap (λ (x : Came). x.sheet) t)
