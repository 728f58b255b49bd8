-- Few digits are read as they are spelt.
use Rattle.std.proofs.Common.{arith, lit≤}
use Rattle.std.proofs.lemmas.Bool.Decides.{nat_tests}
use Rattle.line.specs.laws.Few.{few}
use Rattle.hexfloat.specs.Reading.{power_of}
use Rattle.hexfloat.proofs.field.power.Goals as goal

pub returns-in-1-to-6 : goal.returns-in-1-to-6
unfolding power_of
returns-in-1-to-6 c = let e = few 10 c.args.s.now (lit≤ tt) (omega arith) in grind (arith, nat_tests, e)

pub returns-in_default : goal.returns-in_default
unfolding power_of
returns-in_default c = grind (arith, nat_tests)

pub returns-in_default-2 : goal.returns-in_default-2
unfolding power_of
returns-in_default-2 c = grind (arith, nat_tests)
