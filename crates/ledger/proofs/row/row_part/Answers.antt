-- 48 bytes from the row's place on.
use native.Mathlib.Nat.{add-sub_cancel_left}
use Rattle.ledger.specs.Sheet.{row_place}
use Rattle.ledger.specs.Calls.{row_in}
use Rattle.ledger.proofs.row.row_part.Goals as goal

pub returns : goal.returns
unfolding row_in
returns c = rw (c.row_place-at.ensures, add-sub_cancel_left (row_place c.args.row) 48)
