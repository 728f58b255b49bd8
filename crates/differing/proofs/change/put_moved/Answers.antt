-- Two classes, and the line's end.
use native.Mathlib.Omega.{arith}
use mathlib.Core.List.{◌++◌}
use Rattle.laws.specs.Ascii.{ascii}
use Rattle.text.specs.Text.{end}
use Rattle.differing.specs.Differing.{named_class, change_text}
use Rattle.differing.proofs.Pieces.{words_put, two_put}
use Rattle.differing.proofs.change.put_moved.Goals as goal

pub returns : goal.returns
unfolding change_text
returns c =
    let a = c.args in
    let p = c.put_named-a.ensures in
    let q = c.put_named-b.ensures in
    let r = words_put _ _ 1 end (omega arith) (omega arith) c.put_bytes.ensures in
    let x = named_class (ascii "from ") a.from in
    let y = named_class (ascii " to ") a.to in
    let u = two_put a.out.now a.at 12 11 x y (omega arith) p.put (omega (arith, p.upper_bound)) q.put (omega (arith, q.upper_bound)) in
    let w = two_put a.out.now a.at 23 1 (x ++ y) end (omega arith) u.0 (omega (arith, u.1)) r.0 r.1 in
    record { put = w.0; upper_bound = omega (arith, w.1) }
