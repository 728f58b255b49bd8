-- A line was bad, or a read failed.
use Rattle.ending.specs.Outcome.{instead_of}
use Rattle.ending.proofs.outcome.put_instead.Goals as goal

pub returns-in-Ok-clause-put : goal.returns-in-Ok-clause-put
unfolding instead_of
returns-in-Ok-clause-put c = rw c.in-Ok.is c.put_bad.ensures.put

pub returns-in-Err-clause-put : goal.returns-in-Err-clause-put
unfolding instead_of
returns-in-Err-clause-put c = rw c.in-Err.is c.put_failed.ensures.put
