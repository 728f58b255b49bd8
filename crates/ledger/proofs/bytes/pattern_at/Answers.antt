-- Too few bytes, or the place too far on, or eight bytes.
use mathlib.Core.Path.{sym, ◌∙◌}
use Prim.Native.Nat.{◌+◌, ◌≤◌}
use native.Mathlib.Omega.{arith}
use lib.ListN.{length}
use Rattle.ledger.specs.laws.Fields.{pattern_there, pattern-none}
use Rattle.ledger.proofs.Words.{part_8}
use Rattle.ledger.proofs.bytes.pattern_at.Goals as goal

pub returns-then-s-lt8 : goal.returns-then-s-lt8
returns-then-s-lt8 c = let a = c.args in sym (pattern-none a.s.now a.at (omega (arith, c.if-s-lt8.true)))

pub returns-then-s-at : goal.returns-then-s-at
returns-then-s-at c = let a = c.args in sym (pattern-none a.s.now a.at (omega (arith, c.if-s-at.true, c.if-s-lt8.false)))

pub returns : goal.returns
returns c =
    let a = c.args in
    let h : a.at + 8 ≤ length a.s.now = omega (arith, c.if-s-at.false, c.if-s-lt8.false) in
    part_8 a.s.now a.at _ _ h c.part.ensures c.from_le_bytes.ensures ∙ sym (pattern_there a.s.now a.at h)
