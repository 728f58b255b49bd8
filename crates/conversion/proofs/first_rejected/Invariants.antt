-- No row before this one.
use Rattle.conversion.specs.Conversion.{rejected}
use Rattle.conversion.proofs.Searching.{Searched}
use Rattle.conversion.proofs.first_rejected.Given as goal

abbrev pub invariant-loop-i : goal.invariant-loop-i
invariant-loop-i l = Searched (rejected l.sheet) l.rows l.i
