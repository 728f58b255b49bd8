-- The call that asks.
use Rattle.std.proofs.Common.{true, false}
use Rattle.files.specs.Calls.{called, has}
use Rattle.files.proofs.calling.is_there.Goals as goal

pub returns-in-Ok : goal.returns-in-Ok
returns-in-Ok c = called (has _ true)

pub returns-in-Err-TooLong : goal.returns-in-Err-TooLong
returns-in-Err-TooLong c = called (has _ true)

pub returns-in-Err-NotPresent : goal.returns-in-Err-NotPresent
returns-in-Err-NotPresent c = called (has _ false)
