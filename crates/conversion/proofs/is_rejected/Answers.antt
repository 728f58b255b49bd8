-- The row tests, then the class.
use Rattle.std.proofs.Common.{sym, ap, ◌∙◌, arith, ℕ}
use lib.Dec.{eqb}
use Rattle.ledger.specs.Class.{class_number}
use Rattle.ledger.specs.Calls.{count_of}
use Rattle.inspection.specs.laws.Class.{class_le, class_known}
use Rattle.conversion.proofs.Refused.{row-rejected, class-rejected}
use Rattle.conversion.proofs.is_rejected.Goals as goal

pub returns-then-not-row_sound : goal.returns-then-not-row_sound
returns-then-not-row_sound c = row-rejected _ _ (sym c.row_sound.ensures ∙ c.if-not-row_sound.true)

pub overflow_cast-class : goal.overflow_cast-class
overflow_cast-class c =
    let a = c.args in
    omega (arith, c.class_number-class.ensures ∙ ap class_number c.row_class.ensures ∙ class_known a.sheet.now a.row, class_le a.sheet.now a.row)

pub returns : goal.returns
returns c =
    let a = c.args in
    let k = c.class_number-class.ensures ∙ ap class_number c.row_class.ensures ∙ class_known a.sheet.now a.row in
    ap (λ (n : ℕ). eqb n 0) (c.count.ensures ∙ ap (count_of a.sheet.now) k)
    ∙ class-rejected a.sheet.now a.row (sym c.row_sound.ensures ∙ c.if-not-row_sound.false)
