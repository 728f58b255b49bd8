-- The lines so far stand in the buffer, at most 50 bytes each.
use Rattle.std.proofs.Common.{◌*◌}
use Rattle.placing.specs.Placed.{Placed}
use Rattle.monthly.specs.Monthly.{refusal_lines}
use Rattle.monthly.proofs.lines.put_refusals.Given as goal

abbrev pub invariant-loop-i : goal.invariant-loop-i
invariant-loop-i l = Placed l.initial.out l.out l.from l.at (50 * l.i) (refusal_lines l.fn.refusals l.i)
