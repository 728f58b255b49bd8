-- By the signs of the two.
use Rattle.std.proofs.Common.{sym, ◌∙◌, arith}
use Rattle.difference.specs.laws.Steps.{both-plus, plus_minus, minus_plus, both_minus}
use Rattle.difference.proofs.steps.Goals as goal
use Rattle.difference.proofs.steps.Goals.{in_default-via-then-p-lt-SIGN+then-q-lt-SIGN, in_default-via-else-p-lt-SIGN+else-this}

pub returns-in-true-false : goal.returns-in-true-false
returns-in-true-false c = sym (plus_minus _ _ c.in-true-false.is-0 c.in-true-false.is-1)

pub returns-in-false-true : goal.returns-in-false-true
returns-in-false-true c = sym (minus_plus _ _ c.in-false-true.is-0 c.in-false-true.is-1)

pub returns-in_default : goal.returns-in_default
returns-in_default c = c.abs_diff.ensures ∙ elim c.in_default.branch [ in_default-via-then-p-lt-SIGN+then-q-lt-SIGN w ↦ sym (both-plus _ _ (omega (arith, w)) (omega (arith, w))) | in_default-via-else-p-lt-SIGN+else-this w ↦ sym (both_minus _ _ (omega (arith, w)) (omega (arith, w))) ]
