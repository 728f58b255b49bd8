-- `rest_after` meets its contract (`Digits`).
use Rattle.std.proofs.Common.{◌+◌}
use Rattle.remainder.proofs.Digits.{no_zeros, next_zero, rest_below}
use Rattle.remainder.proofs.rest_after.Goals as goal

pub loop-init : goal.loop-init
loop-init c =
    let a = c.args in
    let e = no_zeros a.x a.y c.first-rest.result c.first-rest.ensures in
    (rest_below a.x a.y 0 c.first-rest.result c.requires.1 e, e)

pub loop-preserved : goal.loop-preserved
loop-preserved c =
    let a = c.args in
    let l = c.loop in
    let e = next_zero a.x a.y l.counter l.rest c.once-rest.result c.requires.1 l.invariant.1 c.once-rest.ensures in
    (rest_below a.x a.y (l.counter + 1) c.once-rest.result c.requires.1 e, e)
