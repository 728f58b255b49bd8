-- From the term i on the number is the sum of those terms.
use Rattle.std.proofs.Common.{◌≡◌, ◌+◌, ◌-◌, ◌*◌}
use Rattle.bits.specs.Runs.{run_of}
use Rattle.bits.proofs.fractions.run.Given as goal

abbrev pub invariant-loop-i : goal.invariant-loop-i
invariant-loop-i l = l.h ≡ run_of l.u (l.n + l.d * l.i) l.d (l.k - l.i)
