-- The place of the row that the entry is worked out to.
use mathlib.Core.Path.{◌∙◌, ap}
use Rattle.ledger.specs.Calls.{place_refusal, place_of}
use Rattle.sheet.specs.laws.Placed.{placed_refusal, placed_edit}
use Rattle.sheet.proofs.edit.Goals as goal

pub returns : goal.returns
returns c =
    let a = c.args in
    let s = a.sheet.now in
    let p = c.place.ensures in
    let w = c.words.ensures in
    (p.0 ∙ ap (place_refusal s a.row) w ∙ placed_refusal s a.row a.entry, p.1 ∙ ap (place_of s a.row) w ∙ placed_edit s a.row a.entry)
