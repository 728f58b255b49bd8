-- `read` gives the number and the two values of each case, as the definition does.
use Rattle.std.proofs.Common.{arith}
use Rattle.answer.specs.Answer.{refusal_of, first_of, second_of}
use Rattle.answer.proofs.read.Goals as goal

pub returns-in-Ok : goal.returns-in-Ok
unfolding refusal_of first_of second_of
returns-in-Ok c = rw (c.first.ensures, c.second.ensures, c.in-Ok.is)

pub returns-in-Err : goal.returns-in-Err
unfolding refusal_of first_of second_of
returns-in-Err c = rw c.in-Err.is (grind arith)
