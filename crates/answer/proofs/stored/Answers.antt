-- One test.
use mathlib.Core.Path.{refl}
use Rattle.answer.specs.Numbers.{stored}
use Rattle.answer.proofs.stored.Goals as goal

pub returns : goal.returns
unfolding stored
returns c = refl
