-- One after the other: a number, two floats.
use Rattle.std.proofs.Common.{get_or, arith, append_assoc}
use Rattle.text.specs.laws.Digits.{field-most}
use Rattle.hexfloat.specs.laws.Lengths.{spelled_most}
use Rattle.placing.specs.laws.Placing.{piece, follow}
use Rattle.hexpage.specs.HexPage.{worked_text}
use Rattle.hexpage.proofs.put_worked.Goals as goal

pub returns : goal.returns
unfolding worked_text
returns c =
    let e = c.args in
    let s = e.out.now in
    let a = c.pattern_at.result in
    let b = c.pattern_at-2.result in
    let p = piece s e.at 21 _ (field-most (get_or e.row.now 1 0) 44) (omega arith) c.put_decimal-at.ensures in
    let q = follow s e.at 21 41 _ _ (spelled_most a 44) (omega arith) p c.put_float-at.ensures in
    let all = follow s e.at 62 41 _ _ (spelled_most b 10) (omega arith) q c.put_float.ensures in
    rw (← c.pattern_at.ensures, ← c.pattern_at-2.ensures) (simp append_assoc (simp append_assoc at all))
