-- The raised totals are subtracted one way or the other.
use Rattle.difference.proofs.Growths.{grows, shrinks}
use Rattle.difference.proofs.grown.Goals as goal

pub returns-in-Some : goal.returns-in-Some
returns-in-Some c = grows _ _ _ _ _ _ c.exact_total.ensures c.exact_total-2.ensures c.raised-before.ensures.1 c.raised-after.ensures.1 c.raised-before.ensures.0 c.raised-after.ensures.0 _ c.in-Some.ensures

pub returns-in-None : goal.returns-in-None
returns-in-None c = shrinks _ _ _ _ _ _ c.exact_total.ensures c.exact_total-2.ensures c.raised-before.ensures.1 c.raised-after.ensures.1 c.raised-before.ensures.0 c.raised-after.ensures.0 _ c.in-None.ensures (rw c.unwrap.ensures at c.minus-in-None.ensures)
