-- What is done and what is left is the same at each turn.
use Rattle.std.proofs.Common.{◌≡◌, ◌++◌, take, drop}
use Rattle.conversion.specs.Conversion.{is_forth, turned_rows}
use Rattle.conversion.proofs.Turning.{Left}
use Rattle.conversion.proofs.turn_rows.Given as goal

abbrev pub invariant-loop-row : goal.invariant-loop-row
invariant-loop-row l = Left (is_forth l.way) l.rows l.row l.sheet ≡ take 32 l.initial.sheet ++ turned_rows (is_forth l.way) l.rows (drop 32 l.initial.sheet)
