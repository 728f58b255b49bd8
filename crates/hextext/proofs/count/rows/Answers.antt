-- No digit, a zero in front, or the digits.
use Rattle.std.proofs.Common.{◌≡◌, ap, ◌∙◌, arith}
use Rattle.std.proofs.lemmas.Bool.Decides.{nat_tests}
use Rattle.line.specs.Line.{spell_of}
use Rattle.hextext.specs.HexText.{count_of, capped}
use Rattle.hextext.proofs.count.rows.Goals as goal

pub returns-in_default : goal.returns-in_default
unfolding count_of
returns-in_default c =
    let s = c.part-s.result.now in
    let e : spell_of 10 0 s ≡ count_of s = grind (arith, nat_tests) in
    c.digits.ensures ∙ ap capped (e ∙ ap count_of c.part-s.ensures)

pub returns-in-empty : goal.returns-in-empty
unfolding count_of capped
returns-in-empty c = rw (← c.part-s.ensures) (grind (arith, nat_tests))

pub returns-in-empty-2 : goal.returns-in-empty-2
unfolding count_of capped
returns-in-empty-2 c = rw (← c.part-s.ensures) (grind (arith, nat_tests))
