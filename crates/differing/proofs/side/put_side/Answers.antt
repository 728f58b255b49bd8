-- The head, the arguments, the times.
use native.Mathlib.Omega.{arith}
use mathlib.Core.List.{◌++◌}
use Rattle.text.specs.laws.Digits.{field-length}
use Rattle.text.specs.laws.Writing.{placed}
use Rattle.differing.specs.Differing.{field, head_of, arguments_of, side_of}
use Rattle.differing.proofs.Pieces.{two_put}
use Rattle.differing.proofs.side.put_side.Goals as goal

pub returns : goal.returns
unfolding side_of
returns c =
    let a = c.args in
    let r = c.read_row-bytes in
    let n = c.row_times-times in
    let p = c.put_head-a.ensures in
    let q = c.put_arguments-b.ensures in
    let t = placed _ _ 21 6 (field n.result) (field-length n.result 32 5 (omega arith) (omega arith) (omega arith)) (omega arith) (omega arith) c.put_decimal.ensures in
    let u = two_put a.out.now a.at 8 51 (head_of r.result.now) (arguments_of a.sheet.now a.row) (omega arith) p.put p.upper_bound q.put q.upper_bound in
    let w = two_put a.out.now a.at 59 6 (head_of r.result.now ++ arguments_of a.sheet.now a.row) (field n.result) (omega arith) u.0 (omega (arith, u.1)) t.0 t.1 in
    record { put = rw (r.ensures, n.ensures) at w.0; upper_bound = omega (arith, w.1) }
