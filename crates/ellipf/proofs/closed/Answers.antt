-- Down the test.
use Rattle.std.proofs.Common.{refl, sym, ap₂, ◌∙◌}
use Rattle.std.specs.Prelude.{Bool, not, ◌||◌, ◌&&◌}
use lib.Ieee.{of_bits}
use Rattle.laws.specs.Arithmetic.{◌=·◌, -∞}
use Rattle.laws.specs.Ladder.{held, passed}
use Rattle.laws.specs.laws.Kinds.{differs_is}
use Rattle.ellipf.specs.Ellipf.{closed_of}
use Rattle.ellipf.proofs.closed.Goals as goal

pub returns-then-m-lost : goal.returns-then-m-lost
unfolding closed_of of_bits
returns-then-m-lost c =
    held _ _ (ap₂ (λ (a b : Bool). c.args.m =· -∞ && (not c.args.t.met || (a || b))) (differs_is _ ∙ sym c.is_nan.ensures.value) (sym c.infinite.ensures) ∙ c.if-m-lost.true) refl

pub returns : goal.returns
unfolding closed_of of_bits
returns c =
    passed _ _ (ap₂ (λ (a b : Bool). c.args.m =· -∞ && (not c.args.t.met || (a || b))) (differs_is _ ∙ sym c.is_nan.ensures.value) (sym c.infinite.ensures) ∙ c.if-m-lost.false) c.settled.ensures
