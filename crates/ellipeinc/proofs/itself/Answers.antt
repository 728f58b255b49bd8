-- One return for each side of the test.
use Rattle.std.proofs.Common.{refl, sym, ◌∙◌}
use Rattle.laws.specs.Ladder.{held, passed}
use Rattle.laws.specs.laws.Kinds.{differs_is}
use Rattle.ellipeinc.specs.Ellipeinc.{itself_of}
use Rattle.ellipeinc.proofs.itself.Goals as goal

pub returns-then-is_nan : goal.returns-then-is_nan
unfolding itself_of
returns-then-is_nan c = held _ _ (differs_is _ ∙ sym c.is_nan.ensures.value ∙ c.if-is_nan.true) refl

pub returns : goal.returns
unfolding itself_of
returns c = passed _ _ (differs_is _ ∙ sym c.is_nan.ensures.value ∙ c.if-is_nan.false) c.handed.ensures
