-- The words, then the number.
use native.Mathlib.Omega.{arith}
use mathlib.Core.List.{◌∷◌, ◌++◌, append_assoc, []}
use lib.ListN.{length}
use Rattle.text.specs.Text.{decimal}
use Rattle.text.specs.laws.Digits.{field-most}
use Rattle.monthly.specs.Monthly.{note}
use Rattle.placing.specs.laws.Placing.{piece, follow}
use Rattle.monthly.proofs.lines.put_note.Goals as goal

pub returns : goal.returns
unfolding note
returns c = let a = c.args in
    let s = a.out.now in
    let w = a.words.now in
    let first = piece s a.at (length w) w (omega arith) (omega arith) c.put_bytes-a.ensures in
    simp append_assoc (follow s a.at (length w) 21 w (decimal a.n ++ (a.after ∷ [])) (field-most a.n a.after) (omega arith) first c.put_decimal.ensures)
