-- The two constants are the infinities.
use lib.Ieee.{of_bits}
use Rattle.answer.proofs.infinity.Goals as goal

pub returns-then-negative : goal.returns-then-negative
unfolding of_bits
returns-then-negative c = rw c.if-negative.true

pub returns-else-negative : goal.returns-else-negative
unfolding of_bits
returns-else-negative c = rw c.if-negative.false
