-- Each test of the code is a test of the definition.
use Rattle.std.proofs.Common.{arith}
use Rattle.std.proofs.lemmas.Bool.Decides.{nat_tests}
use lib.Dec.{lit≤}
use Rattle.line.specs.Line.{decimal_of}
use Rattle.line.specs.laws.Few.{few}
use Rattle.line.proofs.digits.decimal.Goals as goal

pub returns-then-s-gt10 : goal.returns-then-s-gt10
unfolding decimal_of
returns-then-s-gt10 c = grind (arith, nat_tests)

pub returns-in_default : goal.returns-in_default
unfolding decimal_of
returns-in_default c =
    let e = few 10 c.args.s.now (lit≤ tt) (omega arith) in
    grind (arith, nat_tests, e)

pub returns-in-empty : goal.returns-in-empty
unfolding decimal_of
returns-in-empty c = grind (arith, nat_tests)

pub returns-in-empty-2 : goal.returns-in-empty-2
unfolding decimal_of
returns-in-empty-2 c = grind (arith, nat_tests)
