-- The call.
use Rattle.files.specs.Calls.{called}
use Rattle.files.proofs.closing.close.Goals as goal

pub returns : goal.returns
returns c = let it = c.drop in called _
