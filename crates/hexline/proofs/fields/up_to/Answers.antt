-- No number stays none, and the test of the code is the definition's.
use Rattle.std.proofs.Common.{arith}
use Rattle.std.proofs.lemmas.Bool.Decides.{nat_tests}
use Rattle.hexline.specs.Fields.{up_to}
use Rattle.hexline.proofs.fields.up_to.Goals as goal

pub returns : goal.returns
unfolding up_to
returns c = grind (arith, nat_tests)
