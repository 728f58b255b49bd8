-- What was sent so far is the lines of the rows so far.
use Rattle.files.specs.Output.{Wrote}
use Rattle.hexpage.specs.HexPage.{row_lines}
use Rattle.writing.proofs.send_rows.Given as goal

abbrev pub invariant-loop-i : goal.invariant-loop-i
invariant-loop-i l = Wrote l.fn.out (row_lines l.sheet l.i) l.sent
