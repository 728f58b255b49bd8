-- The digits and the byte after them, where there is room for all.
use mathlib.Core.Bool.{false}
use lib.ListN.{length}
use Rattle.text.specs.Text.{decimal}
use Rattle.text.specs.laws.Digits.{digits-length}
use Rattle.text.specs.laws.Room.{has, has_not}
use Rattle.text.specs.laws.Writing.{puts_none, room_after, byte_after}
use Rattle.text.proofs.put_decimal.Goals as goal

pub returns-then-lacks : goal.returns-then-lacks
returns-then-lacks c =
    let a = c.args in
    puts_none a.out.now a.at 21 _ (has_not _ (length a.out.now) a.at 21 c.lacks.ensures c.if-lacks.true)

pub put_byte-requires : goal.put_byte-requires
put_byte-requires c =
    let a = c.args in
    let room = has _ (length a.out.now) a.at 21 c.lacks.ensures c.if-lacks.false in
    room_after a.out.now a.at 20 _ (digits-length false 10 20 a.n) room c.put_digits-next.ensures.put

pub returns : goal.returns
unfolding decimal
returns c =
    let a = c.args in
    let room = has _ (length a.out.now) a.at 21 c.lacks.ensures c.if-lacks.false in
    byte_after a.out.now a.at 20 _ (digits-length false 10 20 a.n) room c.put_digits-next.ensures.put a.after c.put_byte.ensures
