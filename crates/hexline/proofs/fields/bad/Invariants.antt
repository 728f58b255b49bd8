-- The fields passed read, so the first one that does not is the first from here.
use mathlib.Core.Path.{◌≡◌}
use Prim.Native.Nat.{◌-◌}
use Rattle.hexline.specs.Fields.{bad_from}
use Rattle.hexline.proofs.fields.bad.Given as goal

abbrev pub invariant-loop-j : goal.invariant-loop-j
invariant-loop-j l = bad_from l.line (8 - l.j) l.j ≡ bad_from l.line 8 0
