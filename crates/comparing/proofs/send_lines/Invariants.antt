-- What was sent so far is the lines of the rows so far.
use Rattle.files.specs.Output.{Wrote}
use Rattle.differing.specs.Differing.{lines_of}
use Rattle.comparing.proofs.send_lines.Given as goal

abbrev pub invariant-loop-i : goal.invariant-loop-i
invariant-loop-i l = Wrote l.initial.sent (lines_of l.old l.new l.i) l.sent
