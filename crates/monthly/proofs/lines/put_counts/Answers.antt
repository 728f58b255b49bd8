-- The word, three numbers, and two.
use Prim.Native.Nat.{ℕ}
use native.Mathlib.Omega.{arith}
use mathlib.Core.List.{◌++◌, append_assoc}
use lib.ListN.{get_or}
use Rattle.laws.specs.Ascii.{ascii}
use Rattle.text.specs.Text.{decimal, three, space, end}
use Rattle.text.specs.laws.Digits.{field-most}
use Rattle.monthly.specs.Monthly.{counts_text}
use Rattle.placing.specs.laws.Placing.{piece, follow}
use Rattle.exact.specs.laws.Pieces.{three-most}
use Rattle.monthly.proofs.lines.put_counts.Goals as goal

pub returns : goal.returns
unfolding counts_text
returns c = let a = c.args in
    let s = a.out.now in
    let k = a.at in
    let n : ℕ → ℕ = λ i. get_or a.counts i 0 in
    let x = three (n 0) (n 1) (n 2) ++ space in
    let y = decimal (n 3) ++ space in
    let z = decimal (n 4) ++ end in
    let p = piece s k 7 (ascii "counts ") (omega arith) (omega arith) c.put_bytes-a.ensures in
    let q = follow s k 7 63 (ascii "counts ") x (three-most (n 0) (n 1) (n 2) 32) (omega arith) p c.put_three-b.ensures in
    let r = follow s k 70 21 (ascii "counts " ++ x) y (field-most (n 3) 32) (omega arith) q c.put_decimal-c.ensures in
    let t = follow s k 91 21 (ascii "counts " ++ x ++ y) z (field-most (n 4) 10) (omega arith) r c.put_decimal.ensures in
    simp append_assoc (simp append_assoc at t)
