-- The number of the row's class.
use Rattle.std.proofs.Common.{arith}
use Rattle.inspection.specs.laws.Class.{class_known, class_le}
use Rattle.shuttlemint.proofs.sm_row_class.Goals as goal

pub returns : goal.returns
returns c =
    let a = c.args in
    grind (arith, class_known a.sheet.now a.row, class_le a.sheet.now a.row)
