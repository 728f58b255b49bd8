-- The call.
use Rattle.std.specs.Result.{is_ok}
use Rattle.files.specs.Calls.{called, renames}
use Rattle.files.proofs.saving.rename.Goals as goal

pub returns : goal.returns
returns c = called (renames _ _ (is_ok c.rename.result))
