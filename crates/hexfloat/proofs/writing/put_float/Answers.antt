-- A NaN's pattern, or the sign and the size, where there is room.
use native.Mathlib.Omega.{arith}
use mathlib.Core.List.{◌∷◌, ◌++◌, append_assoc, []}
use lib.ListN.{length}
use Rattle.laws.specs.Ascii.{ascii}
use Rattle.text.specs.Text.{pattern}
use Rattle.text.specs.laws.Digits.{pattern-most}
use Rattle.text.specs.laws.Room.{has, has_not}
use Rattle.text.specs.laws.Writing.{put_both, placed_both, puts_all, puts_none}
use Rattle.hexfloat.specs.Spelled.{field_of, fraction_of, sign_text, size_text, spelled_of}
use Rattle.hexfloat.proofs.writing.put_float.Goals as goal

pub returns-then-lacks : goal.returns-then-lacks
returns-then-lacks c =
    let a = c.args in
    puts_none a.out.now a.at 41 _ (has_not _ (length a.out.now) a.at 41 c.lacks.ensures c.if-lacks.true)

pub returns-then-field-fraction : goal.returns-then-field-fraction
unfolding spelled_of
returns-then-field-fraction c =
    let a = c.args in
    let room = has _ (length a.out.now) a.at 41 c.lacks.ensures c.if-lacks.false in
    let whole = placed_both a.out.now a.at 4 17 4 17 (ascii "nan:") (pattern a.p ++ (a.after ∷ [])) (omega arith, pattern-most a.p a.after) (omega arith, omega arith) (omega (arith, room), omega (arith, room))
    c.put_bytes-a.ensures c.put_pattern.ensures in
    puts_all a.out.now a.at 41 _ room (rw c.if-field-fraction.true whole.0)

pub put_sign-a-requires : goal.put_sign-a-requires
put_sign-a-requires c =
    let a = c.args in
    let room = has _ (length a.out.now) a.at 41 c.lacks.ensures c.if-lacks.false in
    omega arith

pub put_size-requires : goal.put_size-requires
put_size-requires c =
    let a = c.args in
    let room = has _ (length a.out.now) a.at 41 c.lacks.ensures c.if-lacks.false in
    (omega arith, omega arith, omega (arith, room, c.put_sign-a.ensures.upper_bound))

pub returns : goal.returns
unfolding spelled_of
returns c =
    let a = c.args in
    let room = has _ (length a.out.now) a.at 41 c.lacks.ensures c.if-lacks.false in
    let p = c.put_sign-a.ensures in
    let q = c.put_size.ensures in
    let all = put_both a.out.now a.at (sign_text a.p) (size_text (field_of a.p) (fraction_of a.p) ++ (a.after ∷ [])) (omega (arith, room, p.upper_bound, q.upper_bound)) p.put q.put in
    puts_all a.out.now a.at 41 _ room (rw c.if-field-fraction.false (simp append_assoc all))
