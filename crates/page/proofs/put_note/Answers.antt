-- The words, then the number.
use Rattle.std.proofs.Common.{◌++◌, length, arith, append_assoc}
use Rattle.text.specs.Text.{decimal, end}
use Rattle.text.specs.laws.Digits.{field-most}
use Rattle.placing.specs.laws.Placing.{piece, follow}
use Rattle.page.proofs.put_note.Goals as goal

pub returns : goal.returns
returns c =
    let a = c.args in
    let s = a.out.now in
    let k = length a.words.now in
    let p = piece s 0 k a.words.now (omega arith) (omega arith) c.put_bytes-a.ensures in
    simp append_assoc (follow s 0 k 21 a.words.now (decimal a.n ++ end) (field-most a.n 10) (omega arith) p c.put_decimal.ensures)
