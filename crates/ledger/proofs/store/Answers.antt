-- The old row, the new one in its place, and the totals: `edited_is` puts them together.
use Rattle.std.proofs.Common.{◌≡◌, ◌+◌, ◌-◌, ap, ◌∙◌, ℕ, List, length}
use borrow.Rule.Slice.PartMut.{put_mid}
use Rattle.laws.specs.Splice.{splice}
use Rattle.ledger.specs.Sheet.{row_place}
use Rattle.ledger.specs.Calls.{rows_in, revised}
use Rattle.ledger.specs.laws.Refusals.{row_room, undamaged}
use Rattle.ledger.proofs.Words.{put_back}
use Rattle.ledger.proofs.Places.{edited_is, revisable}
use Rattle.ledger.proofs.store.Goals as goal

pub row_in-old-requires : goal.row_in-old-requires
row_in-old-requires c = row_room c.args.sheet.now c.requires.0 c.args.row c.requires.2

-- the sheet with the row put in
module _ (s y w : List ℕ) (i at : ℕ) (d : y ≡ w) (e : length w ≡ 48) (g : at ≡ row_place i) where
  put : put_mid at (at + 48 - at) s y ≡ splice s (row_place i) w
  put = put_back s y at 48 (ap length d ∙ e) ∙ (λ j. splice s (g j) (d j))

pub revise-requires : goal.revise-requires
revise-requires c =
    let s = c.args.sheet.now in
    let w = c.args.new.now in
    let i = c.args.row in
    rw (put s _ w i _ c.write_row.ensures c.told-new c.row_place-at.ensures)
    (revisable s w i c.requires.0 c.requires.2 c.told-new (undamaged s i c.requires.3) c.requires.1 _ c.row_in-old.ensures c.requires.4)

pub returns : goal.returns
returns c =
    let s = c.args.sheet.now in
    let w = c.args.new.now in
    let i = c.args.row in
    let b = put s _ w i _ c.write_row.ensures c.told-new c.row_place-at.ensures in
    edited_is s w i c.requires.0 c.requires.2 c.told-new c.revise.new.sheet
    (c.revise.ensures ∙ (λ j. splice (b j) (row_place (rows_in (b j))) (revised (b j) (c.row_in-old.ensures j) w)))
