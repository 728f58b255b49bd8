-- What the rows from here on make of what is held is what all rows make of the report.
use Rattle.std.proofs.Common.{◌≡◌, ◌-◌}
use Rattle.month.specs.Month.{legs_from, legs_on}
use Rattle.month.proofs.parts.Report.add_rows.Given as goal

abbrev pub invariant-loop-i : goal.invariant-loop-i
invariant-loop-i l = legs_on l.self (legs_from l.number l.sheet l.i (l.rows - l.i)) ≡ legs_on l.initial.self (legs_from l.number l.sheet 0 l.rows)
