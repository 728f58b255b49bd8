-- Two bytes set are the row with its times.
use Rattle.ledger.specs.Sheet.{function_in}
use Rattle.conversion.proofs.Turning.{turned_is}
use Rattle.conversion.specs.Conversion.{is_forth}
use Rattle.conversion.proofs.turn_row.Goals as goal

pub returns : goal.returns
unfolding function_in
returns c = turned_is (is_forth c.args.way) c.args.row.now _ c.requires c.times_after.ensures
