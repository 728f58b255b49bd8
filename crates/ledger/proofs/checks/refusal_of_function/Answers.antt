-- Test by test.
use borrow.Author.Tests.{eq-eqb, ne_eqb, lt-ltb, le-ltb}
use Rattle.answer.specs.Answer.{refusal_of}
use Rattle.ledger.proofs.checks.refusal_of_function.Goals as goal

pub returns-then-function-eq-WITHDRAWN : goal.returns-then-function-eq-WITHDRAWN
unfolding refusal_of
returns-then-function-eq-WITHDRAWN c = rw (eq-eqb _ _ c.if-function-eq-WITHDRAWN.true)

pub returns-then-function-gt-LAST : goal.returns-then-function-gt-LAST
unfolding refusal_of
returns-then-function-gt-LAST c = rw (ne_eqb _ _ c.if-function-eq-WITHDRAWN.false, lt-ltb _ _ c.if-function-gt-LAST.true)

pub returns : goal.returns
unfolding refusal_of
returns c = rw (ne_eqb _ _ c.if-function-eq-WITHDRAWN.false, le-ltb _ _ c.if-function-gt-LAST.false)
