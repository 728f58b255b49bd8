-- The invariant: the first limbs are those of the difference, but for what they borrowed.
use Rattle.difference.proofs.Borrowing.{Minus}
use Rattle.difference.proofs.limbs.minus.Given as goal

abbrev pub invariant-loop-i : goal.invariant-loop-i
invariant-loop-i l = Minus l.a l.b l.out l.borrow l.i
