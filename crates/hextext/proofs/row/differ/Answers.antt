-- The first of the three that is another.
use mathlib.Core.Path.{refl, ap, ◌∙◌}
use Prim.Native.Nat.{ℕ}
use mathlib.Core.List.{List}
use Rattle.std.specs.Prelude.{Some}
use borrow.Author.Tests.{eq-eqb, ne_eqb}
use Rattle.ledger.specs.Bytes.{pattern_at}
use Rattle.ledger.specs.Sheet.{refusal_in}
use Rattle.sheet.specs.Edit.{row_of}
use Rattle.hextext.specs.HexText.{differ_of}
use Rattle.hextext.proofs.row.differ.Goals as goal

pub returns-then-refusal_of-value : goal.returns-then-refusal_of-value
unfolding differ_of
returns-then-refusal_of-value c =
    let row = c.words-words.ensures ∙ ap row_of c.entry.ensures in
    let q = c.refusal_of.ensures ∙ ap refusal_in row in
    rw (← q, ← c.value.ensures, ne_eqb _ _ c.if-refusal_of-value.true) (ap Some c.column.ensures)

pub returns-then-word_of-value : goal.returns-then-word_of-value
unfolding differ_of
returns-then-word_of-value c =
    let row = c.words-words.ensures ∙ ap row_of c.entry.ensures in
    let q = c.refusal_of.ensures ∙ ap refusal_in row in
    let x = c.word_of.ensures ∙ ap (λ (w : List ℕ). pattern_at w 32) row in
    rw (← q, ← c.value.ensures, eq-eqb _ _ c.if-refusal_of-value.false) (rw (← x, ← c.value-2.ensures, ne_eqb _ _ c.if-word_of-value.true) (ap Some c.column-then-word_of-value.ensures))

pub returns-then-word_of-value-2 : goal.returns-then-word_of-value-2
unfolding differ_of
returns-then-word_of-value-2 c =
    let row = c.words-words.ensures ∙ ap row_of c.entry.ensures in
    let q = c.refusal_of.ensures ∙ ap refusal_in row in
    let x = c.word_of.ensures ∙ ap (λ (w : List ℕ). pattern_at w 32) row in
    let y = c.word_of-2.ensures ∙ ap (λ (w : List ℕ). pattern_at w 40) row in
    rw (← q, ← c.value.ensures, eq-eqb _ _ c.if-refusal_of-value.false)
    (rw (← x, ← c.value-2.ensures, eq-eqb _ _ c.if-word_of-value.false) (rw (← y, ← c.value-3.ensures, ne_eqb _ _ c.if-word_of-value-2.true) (ap Some c.column-then-word_of-value-2.ensures)))

pub returns : goal.returns
unfolding differ_of
returns c =
    let row = c.words-words.ensures ∙ ap row_of c.entry.ensures in
    let q = c.refusal_of.ensures ∙ ap refusal_in row in
    let x = c.word_of.ensures ∙ ap (λ (w : List ℕ). pattern_at w 32) row in
    let y = c.word_of-2.ensures ∙ ap (λ (w : List ℕ). pattern_at w 40) row in
    rw (← q, ← c.value.ensures, eq-eqb _ _ c.if-refusal_of-value.false)
    (rw (← x, ← c.value-2.ensures, eq-eqb _ _ c.if-word_of-value.false) (rw (← y, ← c.value-3.ensures, eq-eqb _ _ c.if-word_of-value-2.false) refl))
