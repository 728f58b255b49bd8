-- Refused, or zeros with the contents and the count of blank rows written.
use mathlib.Core.Path.{◌≡◌, ap, ◌∙◌, sym}
use mathlib.Core.List.{List}
use Prim.Native.Nat.{ℕ, ◌*◌}
use lib.ListN.{length, replicate}
use Rattle.laws.specs.Splice.{splice}
use Rattle.answer.specs.Answer.{refusal_of}
use Rattle.ledger.specs.Bytes.{bytes}
use Rattle.ledger.specs.Sheet.{row_place, size_for}
use Rattle.ledger.specs.laws.Fields.{length_fields, length-bytes}
use Rattle.ledger.proofs.Words.{write_4, put_back, put_mid_lem}
use Rattle.ledger.proofs.Answered.{blank_11, blank_7, blank_made}
use Rattle.ledger.proofs.Blanks.{eight, made}
use Rattle.ledger.proofs.make_blank.Goals as goal

pub returns-then-rows-gt-MOST_ROWS : goal.returns-then-rows-gt-MOST_ROWS
unfolding refusal_of
returns-then-rows-gt-MOST_ROWS c = blank_11 c.args.sheet.now c.args.rows c.if-rows-gt-MOST_ROWS.true

pub returns-then-sheet-size_for : goal.returns-then-sheet-size_for
unfolding refusal_of
returns-then-sheet-size_for c = blank_7 c.args.sheet.now c.args.rows c.if-rows-gt-MOST_ROWS.false (λ e. c.if-sheet-size_for.true (e ∙ sym c.size_for.ensures))

pub returns : goal.returns
unfolding refusal_of
returns c =
    let a = c.args in
    let r = a.rows in
    let z = c.fill in
    let e = c.contents in
    let w = c.put_words in
    let n = c.copy_from_slice in
    let h = w.ensures ∙ c.paired.ensures in
    let l : length a.sheet.now ≡ size_for r = c.if-sheet-size_for.false ∙ c.size_for.ensures in
    let k : 32 ≡ length w.new.s = sym (ap length h ∙ length_fields 4 e.result ∙ ap (λ (n : List ℕ). 4 * length n) e.ensures ∙ ap (λ (n : ℕ). 4 * n) (eight r)) in
    let b = n.ensures.after ∙ c.to_le_bytes.ensures ∙ write_4 r in
    let blank = z.ensures.after (λ y e. e) ∙ ap (λ (n : ℕ). replicate n 0) l in
    blank_made a.sheet.now r c.if-rows-gt-MOST_ROWS.false l _
    (put_back _ n.new.self c.row_place-at.result 4 (ap length b ∙ length-bytes 4 r)
    ∙ (λ i. splice (put_mid_lem z.new.self w.new.s 0 32 k i) (c.row_place-at.ensures i) (b i))
    ∙ (λ i. splice (splice (blank i) 0 (h i)) (row_place r) (bytes 4 r))
    ∙ made r e.result e.ensures)
