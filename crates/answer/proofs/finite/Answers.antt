-- Down the tests, which tell the three kinds of value apart.
use Rattle.std.proofs.Common.{refl, sym, ap₂, Bool, ◌||◌, ◌∙◌}
use Rattle.laws.specs.Ladder.{held, passed}
use Rattle.laws.specs.laws.Kinds.{differs_is}
use Rattle.answer.specs.laws.Tests.{finite_is}
use Rattle.answer.proofs.finite.Goals as goal

pub returns-then-is_nan-infinite : goal.returns-then-is_nan-infinite
returns-then-is_nan-infinite c =
    let either = ap₂ (λ (a b : Bool). a || b) (differs_is _ ∙ sym c.is_nan.ensures.value) (sym c.infinite.ensures) in
    held _ _ (either ∙ c.if-is_nan-infinite.true) refl ∙ finite_is _

pub returns : goal.returns
returns c =
    let either = ap₂ (λ (a b : Bool). a || b) (differs_is _ ∙ sym c.is_nan.ensures.value) (sym c.infinite.ensures) in
    passed _ _ (either ∙ c.if-is_nan-infinite.false) refl ∙ finite_is _
