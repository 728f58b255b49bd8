-- The lines so far were sent.
use Rattle.std.proofs.Common.{take}
use Rattle.reporting.specs.Reporting.{ToldAll}
use Rattle.reporting.proofs.saying.put_files.Given as goal

abbrev pub invariant-loop-i : goal.invariant-loop-i
invariant-loop-i l = ToldAll l.i (take l.i l.fates) l.initial.sent l.sent
