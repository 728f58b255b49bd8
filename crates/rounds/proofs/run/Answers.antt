-- There is no file to keep anything in, and no sheet to begin with.
use Rattle.ledger.specs.Calls.{rows_in, is_sheet, is_sheet_of}
use Rattle.runner.specs.Done.{begun_of}
use Rattle.rounds.proofs.run.Goals as goal

pub returns : goal.returns
unfolding begun_of is_sheet is_sheet_of rows_in
returns c = c.run_paged.ensures
