-- By cases.
use borrow.Author.Tests.{eq-eqb, ne_eqb}
use Rattle.conversion.specs.Conversion.{is_forth}
use Rattle.conversion.proofs.times_after.Goals as goal

pub returns-then-function-eq0 : goal.returns-then-function-eq0
unfolding is_forth
returns-then-function-eq0 c = rw (c.in-Forth.is, eq-eqb c.args.function 0 c.if-function-eq0.true)

pub returns-else-function-eq0 : goal.returns-else-function-eq0
unfolding is_forth
returns-else-function-eq0 c = rw (c.in-Forth.is, ne_eqb c.args.function 0 c.if-function-eq0.false)

pub returns-in-Back : goal.returns-in-Back
unfolding is_forth
returns-in-Back c = rw c.in-Back.is
