-- The code's test, by its two parts, is the definition's.
use Rattle.std.proofs.Common.{◌∙◌, lt-ltb}
use Rattle.text.specs.laws.Room.{too_small, beyond}
use Rattle.text.proofs.lacks.Goals as goal

pub returns-then-size-room : goal.returns-then-size-room
returns-then-size-room c =
    let a = c.args in
    lt-ltb a.size a.room c.if-size-room.true ∙ too_small a.size a.at a.room c.if-size-room.true

pub returns-else-size-room : goal.returns-else-size-room
returns-else-size-room c =
    let a = c.args in
    beyond a.size a.at a.room c.if-size-room.false
