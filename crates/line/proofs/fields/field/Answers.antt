-- Up to the first space, or nothing past the end.
use Rattle.std.proofs.Common.{◌≡◌, ℕ, Option, length, ap, drop, ◌∙◌, arith}
use Rattle.std.specs.Option.{unwrap_or}
use Rattle.line.proofs.Parts.{word_is, rest_part, taken_none, taken-one}
use Rattle.line.proofs.fields.field.Goals as goal

pub returns-in_default : goal.returns-in_default
returns-in_default c =
    let a = c.args in
    taken_none a.s.now a.from a.base _ (omega (arith, c.in_default.ensures.lookup)) c.number.ensures

pub returns : goal.returns
returns c =
    let a = c.args in
    let l = c.in-Some.ensures.lookup.0 in
    let n = c.unwrap_or-n.ensures ∙ ap (λ (o : Option ℕ). unwrap_or o (length c.in-Some.rest.now)) c.space.ensures ∙ word_is c.in-Some.rest.now in
    let rest : c.in-Some.rest.now ≡ drop a.from a.s.now = l.2 ∙ rest_part a.s.now a.from in
    taken-one a.s.now a.from a.base c.unwrap_or-n.result _ l.0 (rw (← rest) n) (rw (← rest) c.number-2.ensures)
