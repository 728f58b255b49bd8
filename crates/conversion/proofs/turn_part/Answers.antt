-- The part that was lent is back, turned.
use Rattle.conversion.proofs.Turning.{part_turned}
use Rattle.conversion.specs.Conversion.{is_forth}
use Rattle.conversion.proofs.turn_part.Goals as goal

pub returns : goal.returns
returns c =
    let s = c.args.sheet.now in
    part_turned (is_forth c.args.way) s c.args.row _ _ c.requires c.row_place-at.ensures c.turn_row.ensures
