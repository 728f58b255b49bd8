-- One return for each side of the test.
use mathlib.Core.Path.{refl}
use Rattle.laws.specs.Ladder.{held, passed}
use Rattle.ellippi.specs.Ellippi.{weight_of}
use Rattle.ellippi.proofs.weight.Goals as goal

pub returns-then-rn : goal.returns-then-rn
unfolding weight_of
returns-then-rn c = held _ _ c.if-rn.true refl

pub returns : goal.returns
unfolding weight_of
returns c = passed _ _ c.if-rn.false refl
