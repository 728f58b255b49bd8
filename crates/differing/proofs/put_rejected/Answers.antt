-- The words, then the row.
use native.Mathlib.Omega.{arith}
use Rattle.laws.specs.Ascii.{ascii}
use Rattle.text.specs.laws.Digits.{field-most}
use Rattle.text.specs.laws.Writing.{placed_both}
use Rattle.differing.specs.Differing.{field}
use Rattle.differing.proofs.put_rejected.Goals as goal

pub returns : goal.returns
returns c =
    let a = c.args in
    let w = placed_both a.out.now 0 15 21 15 21 (ascii "refused 10 row ") (field a.row) (omega arith, field-most a.row 32) (omega arith, omega arith) (omega arith, omega arith)
    c.put_bytes-a.ensures c.put_decimal.ensures in
    record { put = w.0; upper_bound = omega (arith, w.1, w.2) }
