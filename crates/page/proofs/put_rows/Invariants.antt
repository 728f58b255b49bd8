-- The lines so far stand in the buffer, at most 54 bytes a row.
use Rattle.text.specs.laws.Lines.{Stands}
use Rattle.page.specs.Page.{row_lines}
use Rattle.page.proofs.put_rows.Given as goal

abbrev pub invariant-loop-i : goal.invariant-loop-i
invariant-loop-i l = Stands l.initial.out l.out 0 l.at 54 l.i (row_lines l.sheet l.i)
