-- Two bytes in decimal.
use native.Mathlib.Omega.{arith}
use Rattle.ledger.specs.Sheet.{function_in, refusal_in}
use Rattle.text.specs.laws.Digits.{field-length}
use Rattle.text.specs.laws.Writing.{placed_both}
use Rattle.differing.specs.Differing.{field, head_of}
use Rattle.differing.proofs.side.put_head.Goals as goal

pub returns : goal.returns
unfolding head_of function_in refusal_in
returns c =
    let a = c.args in
    let f = c.byte_of-function in
    let q = c.byte_of-refusal in
    let w = placed_both a.out.now a.at 21 21 4 4 (field f.result) (field q.result)
    (field-length f.result 32 3 (omega arith) (omega arith) (omega arith), field-length q.result 32 3 (omega arith) (omega arith) (omega arith)) (omega arith, omega arith) (omega arith, omega arith)
    c.put_decimal-a.ensures c.put_decimal.ensures in
    record { put = rw (f.ensures, q.ensures) at w.0; upper_bound = omega (arith, w.1) }
