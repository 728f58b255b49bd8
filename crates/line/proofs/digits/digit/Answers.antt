-- Each arm of the code is a test of the definition.
use Rattle.std.proofs.Common.{arith}
use Rattle.std.proofs.lemmas.Bool.Decides.{nat_tests}
use Rattle.line.specs.Line.{digit_of, digit_value}
use Rattle.line.proofs.digits.digit.Goals as goal

pub returns-in-48-to-57 : goal.returns-in-48-to-57
unfolding digit_of digit_value
returns-in-48-to-57 c = grind (arith, nat_tests)

pub returns-in-97-to-102 : goal.returns-in-97-to-102
unfolding digit_of digit_value
returns-in-97-to-102 c = grind (arith, nat_tests)

pub returns-in_default : goal.returns-in_default
unfolding digit_of digit_value
returns-in_default c = grind (arith, nat_tests)

pub returns-in_default-2 : goal.returns-in_default-2
unfolding digit_of digit_value
returns-in_default-2 c = grind (arith, nat_tests)

pub returns-in_default-3 : goal.returns-in_default-3
unfolding digit_of digit_value
returns-in_default-3 c = grind (arith, nat_tests)
