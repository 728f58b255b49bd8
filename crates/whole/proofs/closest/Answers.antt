-- `closest` meets its contract.
use lib.Dec.{lit≤}
use Rattle.whole.proofs.Fractions.{half-far, half-fits, half-shift}
use Rattle.whole.proofs.closest.Goals as goal

pub overflow_add-result : goal.overflow_add-result
overflow_add-result c = record { fits = half-fits c.args.w c.args.s c.requires.0 c.if-s-ge55.false }

pub returns-then-s-ge55 : goal.returns-then-s-ge55
returns-then-s-ge55 c = (half-far c.args.w c.args.s c.requires.0 c.if-s-ge55.true, lit≤ tt)

pub returns-else-s-ge55 : goal.returns-else-s-ge55
returns-else-s-ge55 c = half-shift c.args.w c.args.s c.requires.0 c.requires.1 c.if-s-ge55.false
