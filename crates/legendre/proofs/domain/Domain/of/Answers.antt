-- Down the tests of `by_domain` (Decided.antt), one for each return.
use Rattle.std.proofs.Common.{refl, sym, ◌∙◌}
use Rattle.laws.specs.laws.Kinds.{differs_is}
use Rattle.legendre.specs.Domain.{chosen_of}
use Rattle.legendre.specs.laws.Decided.{at-nan, over, at_one, at_minus_infinity, where_negative, below_one}
use Rattle.legendre.proofs.domain.Domain.of.Goals as goal

pub returns-then-is_nan : goal.returns-then-is_nan
returns-then-is_nan c = λ a b d e. at-nan _ a b d e (differs_is _ ∙ sym c.is_nan.ensures.value ∙ c.if-is_nan.true)

pub returns-then-m : goal.returns-then-m
returns-then-m c = λ a b d e. over _ a b d e (differs_is _ ∙ sym c.is_nan.ensures.value ∙ c.if-is_nan.false) c.if-m.true

pub returns-then-m-2 : goal.returns-then-m-2
unfolding chosen_of
returns-then-m-2 c = λ a b d e. at_one _ a b d e (differs_is _ ∙ sym c.is_nan.ensures.value ∙ c.if-is_nan.false) c.if-m.false c.if-m-2.true

pub returns-then-m-3 : goal.returns-then-m-3
unfolding chosen_of
returns-then-m-3 c =
    λ a b d e. at_minus_infinity _ a b d e (differs_is _ ∙ sym c.is_nan.ensures.value ∙ c.if-is_nan.false) c.if-m.false c.if-m-2.false c.if-m-3.true

pub returns-then-m-4 : goal.returns-then-m-4
unfolding chosen_of
returns-then-m-4 c =
    λ a b d e. where_negative _ a b d e _ (differs_is _ ∙ sym c.is_nan.ensures.value ∙ c.if-is_nan.false) c.if-m.false c.if-m-2.false c.if-m-3.false c.if-m-4.true refl

pub returns : goal.returns
unfolding chosen_of
returns c =
    λ a b d e. below_one _ a b d e _ (differs_is _ ∙ sym c.is_nan.ensures.value ∙ c.if-is_nan.false) c.if-m.false c.if-m-2.false c.if-m-3.false c.if-m-4.false refl
