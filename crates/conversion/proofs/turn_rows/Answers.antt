-- What is done and what is left is the same at each turn.
use Rattle.std.proofs.Common.{◌≤◌, ◌∙◌, arith, length}
use native.Mathlib.Nat.{sub-zero}
use Rattle.ledger.specs.Sheet.{row_place}
use Rattle.conversion.specs.Conversion.{is_forth}
use Rattle.conversion.proofs.Turning.{turned_next, turned-last}
use Rattle.conversion.proofs.turn_rows.Goals as goal

pub loop-row-init : goal.loop-row-init
loop-row-init c = rw sub-zero

pub loop-row-preserved : goal.loop-row-preserved
loop-row-preserved c =
    let l = c.loop-row in
    let r : row_place c.args.rows ≤ length l.sheet = omega arith in
    rw c.turn_part.ensures (turned_next (is_forth c.args.way) c.args.rows l.row l.sheet c.loop-row-test.true r ∙ l.invariant)

pub returns : goal.returns
returns c =
    let l = c.loop-row in
    turned-last (is_forth c.args.way) c.args.rows l.row l.sheet c.loop-row-test.false ∙ l.invariant
