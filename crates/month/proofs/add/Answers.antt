-- The stop decides; the rows go on the report that has one sheet more.
use Rattle.std.proofs.Common.{sym, refl, ap, ◌∙◌}
use Rattle.std.specs.Result.{is_ok}
use Rattle.month.specs.Month.{sheet_on, added_of}
use Rattle.month.specs.laws.Taken.{taken_sheet}
use Rattle.month.proofs.add.Goals as goal

pub returns-then-is_err : goal.returns-then-is_err
unfolding added_of
returns-then-is_err c = rw (ap is_ok (sym c.stop.ensures) ∙ c.if-is_err.ensures.negation) refl

pub add_rows-requires : goal.add_rows-requires
add_rows-requires c = taken_sheet _ (ap is_ok (sym c.stop.ensures) ∙ c.if-is_err.ensures.negation)

pub returns : goal.returns
unfolding added_of sheet_on
returns c =
    let a = c.args in
    rw (ap is_ok (sym c.stop.ensures) ∙ c.if-is_err.ensures.negation) c.add_rows.ensures
