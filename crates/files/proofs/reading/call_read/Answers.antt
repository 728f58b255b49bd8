-- The call, of either.
use Rattle.files.specs.Calls.{called, reads, read}
use Rattle.files.proofs.reading.call_read.Goals as goal

pub returns-in-Standard : goal.returns-in-Standard
returns-in-Standard c = called (reads _ _ (read c.ok.result _))

pub returns-in-Opened : goal.returns-in-Opened
returns-in-Opened c = called (reads _ _ (read c.ok-in-Opened.result _))
