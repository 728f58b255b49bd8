-- Test by test.
use Rattle.std.proofs.Common.{sym, ◌∙◌}
use Rattle.std.proofs.lemmas.Bool.{false≢true}
use Rattle.std.proofs.lemmas.Bool.{lt-leb}
use Rattle.ledger.proofs.Shares.{unsound_function, unsound_refusal, sound-first}
use Rattle.ledger.proofs.row.can_stand.Goals as goal
use Rattle.ledger.proofs.row.can_stand.Goals.{then-function-le-LAST, else-function-le-LAST}

pub returns-then-stored : goal.returns-then-stored
returns-then-stored c =
    let a = c.args in
    elim c.if-function-le-LAST.branch [
      | then-function-le-LAST w ↦ sound-first a.function a.refusal a.first w.if-function-le-LAST.true (sym w.stored.ensures ∙ sym w.value-is ∙ c.if-stored.true)
      | else-function-le-LAST w ↦ absurd (false≢true (sym (lt-leb _ _ w.if-function-le-LAST.false) ∙ sym w.value-is ∙ c.if-stored.true))
    ]

pub returns-else-stored : goal.returns-else-stored
returns-else-stored c =
    let a = c.args in
    elim c.if-function-le-LAST.branch [
      | then-function-le-LAST w ↦ c.if-stored.false ∙ unsound_refusal a.function a.refusal a.first w.if-function-le-LAST.true (sym w.stored.ensures ∙ sym w.value-is ∙ c.if-stored.false)
      | else-function-le-LAST w ↦ c.if-stored.false ∙ unsound_function a.function a.refusal a.first w.if-function-le-LAST.false
    ]
