-- No row, or a row's class, value and times.
use Rattle.std.proofs.Common.{◌∙◌, rules}
use Rattle.ledger.proofs.Shares.{value_finite, value_none, no_row, a-row}
use Rattle.ledger.proofs.row.share_of.Goals as goal
use Rattle.ledger.proofs.row.share_of.Goals.{then-eq, else-eq}

pub returns-after-eq : goal.returns-after-eq
returns-after-eq c =
    let v = c.in-Ok.row.now in
    let k = c.class_of-class in
    a-row c.args.row.now v _ _ _ c.in-Ok.ensures.1.long c.in-Ok.ensures.1.same k.ensures
    (elim c.if-eq.branch [
      | then-eq w ↦ w.value-is ∙ w.first-value.ensures ∙ value_finite v _ k.ensures (search rules)
      | else-eq w ↦ w.value-is ∙ value_none v _ k.ensures (search rules)
    ])
    c.times.ensures

pub returns-in-Err : goal.returns-in-Err
returns-in-Err c = no_row c.args.row.now c.in-Err.ensures.1
