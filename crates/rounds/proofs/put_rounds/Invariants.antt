-- The lines so far stand in the buffer, at most 30 bytes a row.
use Rattle.std.proofs.Common.{◌≤◌, length}
use Rattle.text.specs.laws.Lines.{Stands}
use Rattle.rounds.specs.Rounds.{rounds_lines}
use Rattle.rounds.proofs.put_rounds.Given as goal

abbrev pub invariant-loop-i : goal.invariant-loop-i
invariant-loop-i l = (l.at ≤ length l.out) × Stands l.initial.out l.out 0 l.at 30 l.i (rounds_lines l.sheet l.i)
