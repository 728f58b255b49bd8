-- The number, the two sides, and how they differ.
use mathlib.Core.Path.{◌≡◌}
use Prim.Native.Nat.{ℕ, ◌≤◌, ◌<◌}
use native.Mathlib.Omega.{arith}
use mathlib.Core.List.{List, ◌++◌}
use lib.ListN.{length}
use Rattle.text.specs.Writing.{Put, Puts}
use Rattle.text.specs.laws.Digits.{field-length}
use Rattle.text.specs.laws.Writing.{placed}
use Rattle.differing.specs.Differing.{field, side_of, change_text, row_text}
use Rattle.differing.proofs.Pieces.{two_put}
use Rattle.differing.proofs.put_text.Goals as goal

number_put : (s : List ℕ) (n : ℕ) {t : List ℕ} {b : ℕ} → n < 4294967296 → 21 ≤ length s → Puts s t 0 b 21 (field n) → Put s t 0 b (field n) × (b ≤ 11) × (length t ≡ length s)
number_put s n h l p = placed s 0 21 11 (field n) (field-length n 32 10 (omega arith) (omega arith) (omega arith)) (omega arith) (omega arith) p

pub put_side-b-requires : goal.put_side-b-requires
put_side-b-requires c =
    let a = c.args in
    let p = number_put a.out.now a.row (omega arith) (omega arith) c.put_decimal-a.ensures in
    omega (arith, p.1, p.2)

pub put_side-c-requires : goal.put_side-c-requires
put_side-c-requires c =
    let a = c.args in
    let p = number_put a.out.now a.row (omega arith) (omega arith) c.put_decimal-a.ensures in
    omega (arith, p.1, p.2, c.put_side-b.ensures.upper_bound)

pub put_change-requires : goal.put_change-requires
put_change-requires c =
    let a = c.args in
    let p = number_put a.out.now a.row (omega arith) (omega arith) c.put_decimal-a.ensures in
    omega (arith, p.1, p.2, c.put_side-b.ensures.upper_bound, c.put_side-c.ensures.upper_bound)

pub returns : goal.returns
unfolding row_text
returns c =
    let a = c.args in
    let p = number_put a.out.now a.row (omega arith) (omega arith) c.put_decimal-a.ensures in
    let s = c.put_side-b.ensures in
    let t = c.put_side-c.ensures in
    let d = c.changed-change in
    let q = c.put_change.ensures in
    let x = side_of a.old.now a.row in
    let y = side_of a.new.now a.row in
    let u = two_put a.out.now 0 11 65 (field a.row) x (omega arith) p.0 p.1 s.put s.upper_bound in
    let v = two_put a.out.now 0 76 65 (field a.row ++ x) y (omega arith) u.0 (omega (arith, u.1)) t.put t.upper_bound in
    let w = two_put a.out.now 0 141 48 (field a.row ++ x ++ y) (change_text d.result) (omega arith) v.0 (omega (arith, v.1)) q.put q.upper_bound in
    record { put = rw d.ensures at w.0; upper_bound = omega (arith, w.1) }
