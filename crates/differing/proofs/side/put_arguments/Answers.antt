-- Three patterns.
use native.Mathlib.Omega.{arith}
use Rattle.text.specs.laws.Digits.{pattern-most}
use Rattle.text.specs.laws.Writing.{placed_three}
use Rattle.differing.specs.Differing.{digits, arguments_of}
use Rattle.differing.proofs.side.put_arguments.Goals as goal

pub returns : goal.returns
unfolding arguments_of
returns c =
    let a = c.args in
    let x = c.row_word-first in
    let y = c.row_word-second in
    let z = c.row_word-third in
    let w = placed_three a.out.now a.at 17 17 17 17 17 17 (digits x.result) (digits y.result) (digits z.result)
    (pattern-most x.result 32, pattern-most y.result 32, pattern-most z.result 32) (omega arith, omega arith, omega arith) (omega arith, omega arith, omega arith)
    c.put_pattern-a.ensures c.put_pattern-b.ensures c.put_pattern.ensures in
    record { put = rw (x.ensures, y.ensures, z.ensures) at w.0; upper_bound = omega (arith, w.1) }
