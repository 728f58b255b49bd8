-- The call.
use Rattle.files.specs.Calls.{called, opens, number_if}
use Rattle.loading.proofs.open.Goals as goal

pub returns : goal.returns
returns c = called (opens _ (number_if c.ok.result))
