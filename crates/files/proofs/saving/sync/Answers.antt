-- The call.
use Rattle.std.specs.Result.{is_ok}
use Rattle.files.specs.Calls.{called, syncs}
use Rattle.files.proofs.saving.sync.Goals as goal

pub returns : goal.returns
returns c = called (syncs _ _ (is_ok c.sync_all.result))
