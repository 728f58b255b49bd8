-- No row before this one.
use Rattle.conversion.specs.Conversion.{oftener}
use Rattle.conversion.proofs.Searching.{Searched}
use Rattle.conversion.proofs.first_oftener.Given as goal

abbrev pub invariant-loop-j : goal.invariant-loop-j
invariant-loop-j l = Searched (oftener l.sheet) l.rows l.j
