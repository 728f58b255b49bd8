-- An upper-case digit, or what `line` says.
use Rattle.std.proofs.Common.{arith}
use Rattle.std.proofs.lemmas.Bool.Decides.{nat_tests}
use Rattle.line.specs.Line.{digit_value}
use Rattle.hexfloat.specs.Reading.{hex_digit_of, hex_value}
use Rattle.hexfloat.proofs.digits.hex_digit.Goals as goal

pub returns-in-65-to-70 : goal.returns-in-65-to-70
unfolding hex_digit_of hex_value
returns-in-65-to-70 c = grind (arith, nat_tests)

pub returns-in_default : goal.returns-in_default
unfolding hex_digit_of hex_value digit_value
returns-in_default c = grind (arith, nat_tests)
