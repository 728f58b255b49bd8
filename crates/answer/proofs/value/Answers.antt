-- `value` gives the first value, and NaN for a refusal.
use lib.Ieee.{of_bits}
use Rattle.answer.specs.Answer.{value_of}
use Rattle.answer.proofs.value.Goals as goal

pub returns-in-Ok : goal.returns-in-Ok
unfolding value_of
returns-in-Ok c = rw (c.first.ensures, c.in-Ok.is)

pub returns-in-Err : goal.returns-in-Err
unfolding value_of of_bits
returns-in-Err c = rw c.in-Err.is
