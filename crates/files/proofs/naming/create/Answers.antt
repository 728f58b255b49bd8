-- The call.
use Rattle.files.specs.Calls.{called, makes, number_if}
use Rattle.files.proofs.naming.create.Goals as goal

pub returns : goal.returns
returns c = let it = c.create_new in called (makes _ (number_if c.ok.result))
