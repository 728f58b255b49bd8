-- Two numbers of steps.
use native.Mathlib.Omega.{arith}
use Rattle.laws.specs.Ascii.{ascii}
use Rattle.text.specs.laws.Digits.{field-most}
use Rattle.text.specs.laws.Writing.{placed_three}
use Rattle.differing.specs.Differing.{field, last, change_text}
use Rattle.differing.proofs.change.put_steps.Goals as goal

pub returns : goal.returns
unfolding change_text
returns c =
    let a = c.args in
    let w = placed_three a.out.now a.at 6 21 21 6 21 21 (ascii "steps ") (field a.first) (last a.second)
    (omega arith, field-most a.first 32, field-most a.second 10) (omega arith, omega arith, omega arith) (omega arith, omega arith, omega arith)
    c.put_bytes-a.ensures c.put_decimal-b.ensures c.put_decimal.ensures in
    record { put = w.0; upper_bound = omega (arith, w.1) }
