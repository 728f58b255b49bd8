-- The tests find the sign bit.
use Rattle.std.proofs.Common.{refl, ◌∙◌}
use Rattle.laws.specs.Ladder.{held, passed}
use Rattle.ellipf.specs.laws.Signum.{signum_is}
use Rattle.ellipf.proofs.signum.Goals as goal

pub returns-then-phi : goal.returns-then-phi
returns-then-phi c = held _ _ c.if-phi.true refl ∙ signum_is _

pub returns-else-phi : goal.returns-else-phi
returns-else-phi c = passed _ _ c.if-phi.false refl ∙ signum_is _
