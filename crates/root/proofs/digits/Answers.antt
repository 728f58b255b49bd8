-- `digits` meets its contract: after i steps the root is found down to the place 2 ^ (53 - i), and the last digit comes after them (`Trials`).
use Rattle.std.proofs.Common.{◌+◌, ◌*◌, ◌^◌}
use Rattle.root.proofs.Trials.{place, tried_above, moving_above, tried_last}
use Rattle.root.proofs.digits.Goals as goal

pub loop-init : goal.loop-init
loop-init c = (c.first_trial-p.ensures, c.first_moves-m.ensures)

pub loop-preserved : goal.loop-preserved
loop-preserved c =
    let l = c.loop in
    let h = c.loop-test.true in
    let n = c.args.r.digits * 2 ^ 54 in
    let s = place (l.counter + 1) in
    let v = moving_above l.counter h l.m.up l.m.down l.invariant.1 in
    (c.step-p.ensures n s (tried_above l.counter h n l.p.rest l.p.next l.invariant.0) v, c.halved-m.ensures s v)

pub returns : goal.returns
returns c =
    let l = c.loop in
    let m = c.args.r.digits in
    c.last_digit.ensures m (tried_last l.counter l.auto.counter-end c.loop-test.false (m * 2 ^ 54) l.p.rest l.p.next l.invariant.0)
