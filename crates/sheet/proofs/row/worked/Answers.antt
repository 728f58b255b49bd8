-- The answer read out, as patterns.
use mathlib.Core.Path.{◌≡◌, ap, ◌∙◌}
use mathlib.Core.List.{[], ◌∷◌}
use Prim.Native.Nat.{◌<◌}
use native.Mathlib.Omega.{arith}
use lib.Ieee.{to_bits, binary64}
use Rattle.answer.specs.Answer.{refusal_of, first_of, second_of}
use Rattle.sheet.specs.laws.Evaluated.{refusal_byte}
use Rattle.ledger.specs.Sheet.{row_bytes}
use Rattle.ledger.specs.laws.Rows.{row_words}
use Rattle.sheet.specs.Edit.{answer_of, answered}
use borrow.Author.Rules.{rules}
use Rattle.sheet.proofs.row.worked.Goals as goal
use Rattle.sheet.proofs.row.worked.Goals.{After-struct_known-3-1}

-- the function number is a byte, and times are two
byte : (c : After-struct_known-3-1) → c.args.entry.function < 256
byte c = search rules

two : (c : After-struct_known-3-1) → c.args.entry.times < 65536
two c = search rules

pub returns : goal.returns
unfolding answered
returns c =
    let e = c.args.entry in
    let z = c.evaluate in
    let r = c.read-z in
    let q : r.result.refusal ≡ refusal_of (answer_of e) = ap (λ x. x.refusal) r.ensures ∙ ap refusal_of z.ensures in
    let x = c.to_pattern-first.ensures ∙ ap (λ u. to_bits binary64 u.first) r.ensures ∙ ap (λ u. to_bits binary64 (first_of u)) z.ensures in
    let y = c.to_pattern-second.ensures ∙ ap (λ u. to_bits binary64 u.second) r.ensures ∙ ap (λ u. to_bits binary64 (second_of u)) z.ensures in
    row_words e.function r.result.refusal e.times _ (byte (goal.at.returns c).After-struct_known-3-1) (omega (arith, q, refusal_byte e.function e.a e.b e.c)) (two (goal.at.returns c).After-struct_known-3-1)
    ∙ (λ i. row_bytes e.function (q i) e.times (e.a ∷ e.b ∷ e.c ∷ x i ∷ y i ∷ []))
