-- The test of the code is the definition's.
use borrow.Author.Tests.{lt-ltb, le-ltb}
use Rattle.laws.specs.Ladder.{held, passed}
use Rattle.hexfloat.specs.Steps.{scaled_of}
use Rattle.hexfloat.proofs.digits.scaled.Goals as goal

pub returns-then-up-down : goal.returns-then-up-down
unfolding scaled_of
returns-then-up-down c = held _ _ (lt-ltb _ _ c.if-up-down.true) c.rounded.ensures

pub returns : goal.returns
unfolding scaled_of
returns c = passed _ _ (le-ltb _ _ c.if-up-down.false) c.rounded-2.ensures
