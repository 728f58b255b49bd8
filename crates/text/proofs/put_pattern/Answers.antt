-- The digits and the byte after them, where there is room for all.
use mathlib.Core.Bool.{true}
use lib.ListN.{length}
use native.Mathlib.Omega.{arith}
use Rattle.text.specs.Text.{pattern}
use Rattle.text.specs.laws.Digits.{digits-length}
use Rattle.text.specs.laws.Room.{has, has_not}
use Rattle.text.specs.laws.Writing.{puts_none, room_after, byte_after}
use Rattle.text.proofs.put_pattern.Goals as goal

pub returns-then-lacks : goal.returns-then-lacks
returns-then-lacks c =
    let a = c.args in
    puts_none a.out.now a.at 17 _ (has_not _ (length a.out.now) a.at 17 c.lacks.ensures c.if-lacks.true)

pub put_byte-requires : goal.put_byte-requires
put_byte-requires c =
    let a = c.args in
    let room = has _ (length a.out.now) a.at 17 c.lacks.ensures c.if-lacks.false in
    room_after a.out.now a.at 16 _ (digits-length true 16 16 a.n) room (c.put_hex-next.ensures.put (omega (arith, room)))

pub returns : goal.returns
unfolding pattern
returns c =
    let a = c.args in
    let room = has _ (length a.out.now) a.at 17 c.lacks.ensures c.if-lacks.false in
    byte_after a.out.now a.at 16 _ (digits-length true 16 16 a.n) room (c.put_hex-next.ensures.put (omega (arith, room))) a.after c.put_byte.ensures
