-- By cases.
use Rattle.std.proofs.Common.{arith}
use Rattle.answer.specs.Answer.{refusal_of}
use Rattle.shuttlemint.proofs.number.Goals as goal

pub returns-in-Ok : goal.returns-in-Ok
unfolding refusal_of
returns-in-Ok c = rw c.in-Ok.is

pub returns-in-Err : goal.returns-in-Err
unfolding refusal_of
returns-in-Err c = rw c.in-Err.is (grind arith)
