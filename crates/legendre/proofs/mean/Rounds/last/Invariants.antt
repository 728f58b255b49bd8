-- The loop runs `iterated`: Iteration.antt.
use Rattle.legendre.proofs.Iteration.{Holds}
use Rattle.legendre.proofs.mean.Rounds.last.Given as goal

abbrev pub invariant-loop : goal.invariant-loop
invariant-loop g l = Holds (g.Self.Rounds.goes l.tolerance) g.Self.Rounds.next l.initial.s l.s l.counter
