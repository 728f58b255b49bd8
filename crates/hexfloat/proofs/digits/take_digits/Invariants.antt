-- The digits left after those taken lead, from what is held, to what all of them lead to.
use mathlib.Core.Path.{◌≡◌}
use Prim.Native.Nat.{◌+◌, ◌≤◌}
use lib.ListN.{drop}
use Rattle.hexfloat.specs.Steps.{held_from}
use Rattle.hexfloat.proofs.digits.take_digits.Given as goal

abbrev pub invariant-loop-b : goal.invariant-loop-b
invariant-loop-b l = (held_from l.h (drop l.b-index l.s) ≡ held_from l.initial.h l.s) × (l.h.dropped ≤ l.initial.h.dropped + l.b-index)
