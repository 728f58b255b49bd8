-- `digits_of_three` meets its contract: `digits` for each of the three, and the moves once.
use Rattle.std.proofs.Common.{◌+◌, ◌*◌, ◌^◌}
use Rattle.root.proofs.Trials.{place, tried_above, moving_above, tried_last}
use Rattle.root.proofs.digits_of_three.Goals as goal

pub loop-init : goal.loop-init
loop-init c = (c.first_trial-a.ensures, c.first_trial-b.ensures, c.first_trial-c.ensures, c.first_moves-m.ensures)

pub loop-preserved : goal.loop-preserved
loop-preserved c =
    let l = c.loop in
    let i = l.counter in
    let h = c.loop-test.true in
    let r = c.args in
    let s = place (i + 1) in
    let v = moving_above i h l.m.up l.m.down l.invariant.3 in (
      c.step-a.ensures (r.x.digits * 2 ^ 54) s (tried_above i h (r.x.digits * 2 ^ 54) l.a.rest l.a.next l.invariant.0) v,
      c.step-b.ensures (r.y.digits * 2 ^ 54) s (tried_above i h (r.y.digits * 2 ^ 54) l.b.rest l.b.next l.invariant.1) v,
      c.step-c.ensures (r.z.digits * 2 ^ 54) s (tried_above i h (r.z.digits * 2 ^ 54) l.c.rest l.c.next l.invariant.2) v,
      c.halved-m.ensures s v,
    )

pub returns : goal.returns
returns c =
    let l = c.loop in
    let r = c.args in
    let done = tried_last l.counter l.auto.counter-end c.loop-test.false in (
      c.last_digit.ensures r.x.digits (done (r.x.digits * 2 ^ 54) l.a.rest l.a.next l.invariant.0),
      c.last_digit-2.ensures r.y.digits (done (r.y.digits * 2 ^ 54) l.b.rest l.b.next l.invariant.1),
      c.last_digit-3.ensures r.z.digits (done (r.z.digits * 2 ^ 54) l.c.rest l.c.next l.invariant.2),
    )
