-- A line with the whole number, and one with the count.
use native.Mathlib.Omega.{arith}
use mathlib.Core.List.{◌++◌}
use Rattle.laws.specs.Ascii.{ascii}
use Rattle.total.specs.Total.{val}
use Rattle.text.specs.Text.{end}
use Rattle.exact.specs.Exact.{signed_hex}
use Rattle.text.specs.laws.Digits.{field-most}
use Rattle.text.specs.laws.Writing.{placed_both}
use Rattle.differing.specs.Differing.{last}
use Rattle.exact.specs.laws.Hex.{whole-most}
use Rattle.differing.proofs.Pieces.{two_put}
use Rattle.differing.proofs.put_sums.Goals as goal

pub returns : goal.returns
returns c =
    let a = c.args in
    let n = signed_hex a.growth.negative (val a.growth.limbs) ++ end in
    let first = placed_both a.out.now 0 11 546 11 546 (ascii "difference ") n (omega arith, whole-most a.growth.negative (val a.growth.limbs) 10) (omega arith, omega arith) (omega arith, omega arith)
    c.put_bytes-a.ensures c.put_whole-b.ensures in
    let second = placed_both _ _ 5 21 5 21 (ascii "rows ") (last a.rows) (omega arith, field-most a.rows 10) (omega arith, omega arith) (omega (arith, first.1, first.2), omega (arith, first.1, first.2))
    c.put_bytes-c.ensures c.put_decimal.ensures in
    let w = two_put a.out.now 0 557 26 (ascii "difference " ++ n) (ascii "rows " ++ last a.rows) (omega arith) first.0 (omega (arith, first.1)) second.0 (omega (arith, second.1)) in
    record { put = w.0; upper_bound = omega (arith, w.1, first.2, second.2) }
