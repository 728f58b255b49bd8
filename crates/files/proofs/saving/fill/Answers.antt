-- The call.
use Rattle.std.specs.Result.{is_ok}
use Rattle.files.specs.Calls.{called, fills}
use Rattle.files.proofs.saving.fill.Goals as goal

pub returns : goal.returns
returns c = called (fills _ _ (is_ok c.write_all.result))
