-- Down the tests, which tell the three kinds of value apart.
use Rattle.std.proofs.Common.{refl, sym, ◌∙◌}
use Rattle.laws.specs.Ladder.{held, passed}
use Rattle.laws.specs.laws.Kinds.{differs_is}
use Rattle.answer.specs.laws.Tests.{handed_is}
use Rattle.answer.proofs.handed.Goals as goal

pub returns-then-is_nan : goal.returns-then-is_nan
returns-then-is_nan c = held _ _ (differs_is _ ∙ sym c.is_nan.ensures.value ∙ c.if-is_nan.true) refl ∙ handed_is _

pub returns-then-infinite : goal.returns-then-infinite
returns-then-infinite c =
    passed _ _ (differs_is _ ∙ sym c.is_nan.ensures.value ∙ c.if-is_nan.false) (held _ _ (sym c.infinite.ensures ∙ c.if-infinite.true) refl)
    ∙ handed_is _

pub returns : goal.returns
returns c =
    passed _ _ (differs_is _ ∙ sym c.is_nan.ensures.value ∙ c.if-is_nan.false) (passed _ _ (sym c.infinite.ensures ∙ c.if-infinite.false) refl)
    ∙ handed_is _
