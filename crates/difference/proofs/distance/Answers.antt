-- Both second answers are finite, or one is not.
use Rattle.std.proofs.Common.{◌∙◌, sym}
use Rattle.difference.specs.Steps.{steps_of}
use Rattle.difference.proofs.Changes.{one_old, one_new, both}
use Rattle.difference.proofs.distance.Goals as goal
use Rattle.difference.proofs.distance.Goals.{else-is_finite-via-then-is_finite+else-is_finite-2, else-is_finite-via-else-is_finite}

pub returns-then-is_finite-2 : goal.returns-then-is_finite-2
returns-then-is_finite-2 c =
    both _ _ _ _ _ _ c.row_word-p.ensures c.row_word-q.ensures (c.steps-first.ensures ∙ (λ i. steps_of (c.row_word.ensures i) (c.row_word-2.ensures i)))
    (sym c.is_finite.ensures ∙ c.if-is_finite.true)
    (sym c.is_finite-then-is_finite.ensures ∙ c.if-is_finite-2.true)
    c.steps-second.result c.steps-second.ensures

pub returns : goal.returns
returns c =
    let e = c.steps-first.ensures ∙ (λ i. steps_of (c.row_word.ensures i) (c.row_word-2.ensures i)) in
    elim c.else-is_finite.branch [
      | else-is_finite-via-then-is_finite+else-is_finite-2 w ↦
          one_new _ _ _ _ _ _ c.row_word-p.ensures c.row_word-q.ensures e (sym c.is_finite.ensures ∙ w.if-is_finite.true) (sym w.is_finite-then-is_finite.ensures ∙ w.if-is_finite-2.false)
      | else-is_finite-via-else-is_finite w ↦ one_old _ _ _ _ _ _ c.row_word-p.ensures c.row_word-q.ensures e (sym c.is_finite.ensures ∙ w.if-is_finite.false)
    ]
