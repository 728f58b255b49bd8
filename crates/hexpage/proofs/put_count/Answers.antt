-- The row count and the line's end.
use native.Mathlib.Omega.{arith}
use Rattle.text.specs.laws.Digits.{field-most}
use Rattle.text.specs.laws.Writing.{placed}
use Rattle.hexpage.specs.HexPage.{count_line}
use Rattle.hexpage.proofs.put_count.Goals as goal

pub returns : goal.returns
unfolding count_line
returns c =
    let s = c.args.out.now in
    let p = placed s 0 21 21 _ (field-most _ 10) (omega arith) (omega arith) c.put_decimal.ensures in
    record { put = rw c.rows_in.ensures at p.0; upper_bound = omega (arith, p.1, p.2) }
