-- What the files so far came to, each in its place.
use Rattle.std.proofs.Common.{take}
use Rattle.reporting.specs.Reporting.{Took}
use Rattle.reporting.proofs.taking.gather.Given as goal

abbrev pub invariant-loop-i : goal.invariant-loop-i
invariant-loop-i l = Took l.i l.report (take l.i l.fates)
