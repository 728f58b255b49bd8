-- The call.
use Rattle.std.specs.Result.{is_ok}
use Rattle.files.specs.Calls.{called, removes}
use Rattle.files.proofs.saving.remove.Goals as goal

pub returns : goal.returns
returns c = called (removes _ (is_ok c.remove_file.result))
