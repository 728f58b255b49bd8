-- Arm by arm.
use mathlib.Core.Path.{ap, ◌∙◌}
use Rattle.std.proofs.Common.{arith}
use Rattle.std.proofs.lemmas.Bool.Decides.{nat_tests}
use Rattle.hexline.specs.Fields.{up_to, field_of}
use Rattle.hexline.proofs.fields.field.Goals as goal

pub returns-in-0 : goal.returns-in-0
unfolding field_of
returns-in-0 c = let e = c.up_to.ensures ∙ ap (up_to _) c.decimal.ensures in grind (arith, nat_tests, e)

pub returns-in-4 : goal.returns-in-4
unfolding field_of
returns-in-4 c = let e = c.up_to-in-4.ensures ∙ ap (up_to _) c.decimal-in-4.ensures in grind (arith, nat_tests, e)

pub returns-in-5 : goal.returns-in-5
unfolding field_of
returns-in-5 c = grind (arith, nat_tests)

pub returns-in_default : goal.returns-in_default
unfolding field_of
returns-in_default c = grind (arith, nat_tests)
