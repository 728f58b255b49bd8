-- One after the other: a number, three floats, a number.
use Rattle.std.proofs.Common.{get_or, arith, append_assoc}
use Rattle.text.specs.laws.Digits.{field-most}
use Rattle.hexfloat.specs.laws.Lengths.{spelled_most}
use Rattle.placing.specs.laws.Placing.{piece, follow}
use Rattle.hexpage.specs.HexPage.{entered_text}
use Rattle.hexpage.proofs.put_entered.Goals as goal

pub returns : goal.returns
unfolding entered_text
returns c =
    let e = c.args in
    let s = e.out.now in
    let a = c.pattern_at.result in
    let b = c.pattern_at-2.result in
    let d = c.pattern_at-3.result in
    let p = piece s 0 21 _ (field-most (get_or e.row.now 0 0) 44) (omega (arith, c.requires)) c.put_decimal-at.ensures in
    let q = follow s 0 21 41 _ _ (spelled_most a 44) (omega (arith, c.requires)) p c.put_float-at.ensures in
    let r = follow s 0 62 41 _ _ (spelled_most b 44) (omega (arith, c.requires)) q c.put_float-at-2.ensures in
    let t = follow s 0 103 41 _ _ (spelled_most d 44) (omega (arith, c.requires)) r c.put_float-at-3.ensures in
    let all = follow s 0 144 21 _ _ (field-most e.times 44) (omega (arith, c.requires)) t c.put_decimal.ensures in
    rw (← c.pattern_at.ensures, ← c.pattern_at-2.ensures, ← c.pattern_at-3.ensures) (simp append_assoc (simp append_assoc at all))
