-- Not where nothing is read; else what the bytes say goes to the row tests.
use mathlib.Core.Path.{sym, ap, ◌∙◌}
use mathlib.Core.List.{List}
use Prim.Native.Nat.{ℕ}
use lib.ListN.{length}
use lib.Ieee.{Float}
use Rattle.laws.specs.Arithmetic.{float}
use Rattle.ledger.specs.Bytes.{pattern_at}
use Rattle.ledger.specs.Sheet.{function_in, refusal_in, sound_of}
use Rattle.inspection.proofs.Read.{unread, tested}
use Rattle.inspection.proofs.row_sound.Goals as goal

pub returns-then-bytes-ne48 : goal.returns-then-bytes-ne48
returns-then-bytes-ne48 c =
    let a = c.args in
    unread a.sheet.now a.row (λ h. c.if-bytes-ne48.true (ap length c.read_row-bytes.ensures ∙ h))

pub returns : goal.returns
unfolding function_in refusal_in
returns c =
    let a = c.args in
    let w = c.read_row-bytes.result.now in
    let e = c.read_row-bytes.ensures in
    let x = c.from_pattern-first.ensures ∙ ap float c.pattern_at.ensures in
    c.can_stand.ensures
    ∙ ap (λ (x : Float). sound_of (function_in w) (refusal_in w) x) x
    ∙ ap (λ (w : List ℕ). sound_of (function_in w) (refusal_in w) (float (pattern_at w 32))) e
    ∙ tested a.sheet.now a.row (ap length (sym e) ∙ c.if-bytes-ne48.false)
