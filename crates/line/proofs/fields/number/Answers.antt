-- The test of the code is the test of the definition.
use borrow.Author.Tests.{eq-eqb, ne_eqb}
use Rattle.laws.specs.Ladder.{held, passed}
use Rattle.line.specs.Reading.{number_of}
use Rattle.line.proofs.fields.number.Goals as goal

pub returns-then-base-eq10 : goal.returns-then-base-eq10
unfolding number_of
returns-then-base-eq10 c = held _ _ (eq-eqb _ _ c.if-base-eq10.true) c.decimal.ensures

pub returns : goal.returns
unfolding number_of
returns c = passed _ _ (ne_eqb _ _ c.if-base-eq10.false) c.pattern.ensures
