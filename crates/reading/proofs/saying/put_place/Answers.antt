-- One after the other: words and numbers.
use mathlib.Core.Path.{◌≡◌}
use native.Mathlib.Omega.{arith}
use mathlib.Core.List.{append_assoc}
use lib.ListN.{length}
use Rattle.text.specs.laws.Digits.{field-most}
use Rattle.placing.specs.laws.Placing.{piece, follow}
use borrow.Author.Rules.{rules}
use Rattle.reading.proofs.saying.put_place.Goals as goal

pub returns : goal.returns
returns c =
    let e = c.args in
    let s = e.out.now in
    let size : length s ≡ 65 = search rules in
    let p = piece s 0 16 _ (omega arith) (omega (arith, size)) c.put_bytes-at.ensures in
    let q = follow s 0 16 21 _ _ (field-most e.line 32) (omega (arith, size)) p c.put_decimal-at.ensures in
    let r = follow s 0 37 7 _ _ (omega arith) (omega (arith, size)) q c.put_bytes-at-2.ensures in
    let all = follow s 0 44 21 _ _ (field-most e.column 10) (omega (arith, size)) r c.put_decimal.ensures in
    simp append_assoc (simp append_assoc at all)
