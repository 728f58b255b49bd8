-- `digits_of_three` meets its contract: `digits` for each of the three, and the moves once.
use Rattle.std.proofs.Common.{◌*◌, ◌^◌}
use Rattle.root.specs.Steps.{Tried, Moving}
use Rattle.root.proofs.Trials.{place}
use Rattle.root.proofs.digits_of_three.Given as goal

abbrev pub invariant-loop : goal.invariant-loop
invariant-loop l =
    Tried (l.fn.x.digits * 2 ^ 54) (place l.counter) l.a.rest l.a.next × Tried (l.fn.y.digits * 2 ^ 54) (place l.counter) l.b.rest l.b.next × Tried (l.fn.z.digits * 2 ^ 54) (place l.counter) l.c.rest l.c.next × Moving (place l.counter) l.m.up l.m.down
