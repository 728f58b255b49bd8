-- None beyond the row's six words; else eight bytes of what is read.
use mathlib.Core.Path.{sym, ap, ◌∙◌}
use mathlib.Core.List.{List}
use Prim.Native.Nat.{ℕ, ◌*◌}
use Rattle.ledger.specs.Bytes.{pattern_at}
use Rattle.inspection.proofs.Read.{no_word, word_read}
use Rattle.inspection.proofs.row_word.Goals as goal

pub returns-then-k-gt5 : goal.returns-then-k-gt5
returns-then-k-gt5 c = let a = c.args in sym (no_word a.sheet.now a.row a.k c.if-k-gt5.true)

pub returns : goal.returns
returns c =
    let a = c.args in
    c.pattern_at.ensures ∙ ap (λ (w : List ℕ). pattern_at w (8 * a.k)) c.read_row.ensures ∙ word_read a.sheet.now a.row a.k c.if-k-gt5.false
