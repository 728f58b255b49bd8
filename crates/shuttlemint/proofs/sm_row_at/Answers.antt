-- The refusal decides.
use Rattle.std.proofs.Common.{sym}
use borrow.Author.Tests.{eq-eqb, ne_eqb}
use Rattle.ledger.specs.laws.Refusals.{refused, taken}
use Rattle.shuttlemint.specs.Face.{row_place_of}
use Rattle.shuttlemint.proofs.sm_row_at.Goals as goal

pub returns-then-is_err : goal.returns-then-is_err
unfolding row_place_of
returns-then-is_err c = rw (ne_eqb _ _ (refused _ _ c.row_refusal.ensures (sym c.if-is_err.ensures.value)))

pub returns : goal.returns
unfolding row_place_of
returns c = rw (eq-eqb _ _ (taken _ _ c.row_refusal.ensures (sym c.if-is_err.ensures.value)), c.row_place.ensures)
