-- The test of the code is the test of the definition; sixteen digits are at most sixteen.
use Rattle.std.proofs.Common.{arith}
use Rattle.std.proofs.lemmas.Bool.Decides.{nat_tests}
use lib.Dec.{lit≤}
use Rattle.line.specs.Line.{pattern_of}
use Rattle.line.specs.laws.Few.{few}
use Rattle.line.proofs.digits.pattern.Goals as goal

pub returns-then-s-ne16 : goal.returns-then-s-ne16
unfolding pattern_of
returns-then-s-ne16 c = grind (arith, nat_tests)

pub returns : goal.returns
unfolding pattern_of
returns c = let e = few 16 c.args.s.now (lit≤ tt) (omega arith) in grind (arith, nat_tests, e)
