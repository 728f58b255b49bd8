-- The pattern of the code is the definition's test.
use mathlib.Core.Path.{◌≡◌, ap, ◌∙◌}
use mathlib.Core.Bool.{true, ◌&&◌}
use native.Mathlib.Omega.{arith}
use lib.Dec.{eqb}
use lib.ListN.{get_or}
use Rattle.std.proofs.lemmas.Bool.Decides.{nat_tests}
use Rattle.laws.specs.Ladder.{held}
use Rattle.hexfloat.specs.Reading.{either, float_of, prefixed_of}
use Rattle.hexfloat.proofs.Parts.{rest_part}
use Rattle.hexfloat.proofs.field.prefixed.Goals as goal

pub returns-in-48 : goal.returns-in-48
unfolding prefixed_of
returns-in-48 c =
    let s = c.args.s.now in
    let e : (eqb (get_or s 0 0) 48 && either 120 88 (get_or s 1 0)) ≡ true = grind (arith, nat_tests) in
    held _ _ e (c.float.ensures ∙ ap (float_of c.args.negative) (rest_part s 2))

pub returns-in_default : goal.returns-in_default
unfolding prefixed_of
returns-in_default c = grind (arith, nat_tests)

pub returns-in_default-2 : goal.returns-in_default-2
unfolding prefixed_of
returns-in_default-2 c = grind (arith, nat_tests)

pub returns-in_default-3 : goal.returns-in_default-3
unfolding prefixed_of
returns-in_default-3 c = grind (arith, nat_tests)
