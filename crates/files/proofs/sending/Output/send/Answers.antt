-- The call, of each.
use Rattle.std.specs.Result.{is_ok}
use Rattle.files.specs.Calls.{called, sends}
use Rattle.files.proofs.sending.Output.send.Goals as goal

pub returns-in-1 : goal.returns-in-1
returns-in-1 c = rw c.is_ok.ensures.value (called (sends _ _ _ (is_ok c.write_all.result)))

pub returns-in-2 : goal.returns-in-2
returns-in-2 c = rw c.is_ok-in-2.ensures.value (called (sends _ _ _ (is_ok c.write_all-in-2.result)))

pub returns-in_default : goal.returns-in_default
returns-in_default c = called (sends _ _ _ c.write_all-in_default.result)
