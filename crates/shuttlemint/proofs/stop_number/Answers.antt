-- By cases.
use Rattle.conversion.specs.Conversion.{stopped_of}
use Rattle.shuttlemint.proofs.stop_number.Goals as goal

pub returns-in-Ok : goal.returns-in-Ok
unfolding stopped_of
returns-in-Ok c = rw c.in-Ok.is

pub returns-in-Err : goal.returns-in-Err
unfolding stopped_of
returns-in-Err c = rw c.in-Err.is c.number.ensures
