-- One number of steps.
use native.Mathlib.Omega.{arith}
use Rattle.laws.specs.Ascii.{ascii}
use Rattle.text.specs.laws.Digits.{field-most}
use Rattle.text.specs.laws.Writing.{placed_three}
use Rattle.differing.specs.Differing.{field, change_text}
use Rattle.differing.proofs.change.put_first.Goals as goal

pub returns : goal.returns
unfolding change_text
returns c =
    let a = c.args in
    let w = placed_three a.out.now a.at 6 21 2 6 21 2 (ascii "steps ") (field a.first) (ascii "-\n")
    (omega arith, field-most a.first 32, omega arith) (omega arith, omega arith, omega arith) (omega arith, omega arith, omega arith)
    c.put_bytes-a.ensures c.put_decimal-b.ensures c.put_bytes.ensures in
    record { put = w.0; upper_bound = omega (arith, w.1) }
