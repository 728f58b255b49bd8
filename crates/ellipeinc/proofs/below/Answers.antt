-- As they are, or scaled.
use mathlib.Core.Bool.{Bool, ◌||◌}
use mathlib.Core.Path.{◌≡◌, ◌∙◌}
use lib.Ieee.{Float}
use Rattle.laws.specs.Arithmetic.{◌<·◌}
use Rattle.laws.specs.Ladder.{held, passed}
use Rattle.ellipeinc.specs.Ellipeinc.{cancelling, below_of}
use Rattle.ellipeinc.proofs.below.Goals as goal

scales : (m : Float) {b d : Bool} → d ≡ b → (b || cancelling <· m) ≡ (d || cancelling <· m)
scales m e = rw (e)

pub returns-then-large-m : goal.returns-then-large-m
unfolding below_of
returns-then-large-m c =
    held _ _ (scales _ c.large.ensures ∙ c.if-large-m.true) (rw c.trusted_terms-t.ensures)

pub returns : goal.returns
unfolding below_of
returns c = passed _ _ (scales _ c.large.ensures ∙ c.if-large-m.false) c.two_terms.ensures
