-- `digits` meets its contract: after i steps the root is found down to the place 2 ^ (53 - i), and the last digit comes after them (`Trials`).
use Rattle.std.proofs.Common.{◌*◌, ◌^◌}
use Rattle.root.specs.Steps.{Tried, Moving}
use Rattle.root.proofs.Trials.{place}
use Rattle.root.proofs.digits.Given as goal

abbrev pub invariant-loop : goal.invariant-loop
invariant-loop l = Tried (l.fn.r.digits * 2 ^ 54) (place l.counter) l.p.rest l.p.next × Moving (place l.counter) l.m.up l.m.down
