-- Nothing, or the point and the digits.
use native.Mathlib.Omega.{arith}
use mathlib.Core.List.{◌∷◌, []}
use borrow.Author.Tests.{eq-eqb, ne_eqb}
use Rattle.text.specs.laws.Writing.{put_none, put_both}
use Rattle.hexfloat.specs.Spelled.{digits_text, behind_text}
use Rattle.hexfloat.proofs.writing.put_behind.Goals as goal

pub returns-then-fraction-eq0 : goal.returns-then-fraction-eq0
unfolding behind_text
returns-then-fraction-eq0 c = record { put = rw (eq-eqb _ _ c.if-fraction-eq0.true) (put_none _ _); upper_bound = omega arith }

pub put_digits-requires : goal.put_digits-requires
put_digits-requires c =
    let p = c.put_bytes-next.ensures.put (omega (arith, c.requires.1)) in
    (c.requires.0, omega (arith, c.requires.1, p.next))

pub returns : goal.returns
unfolding behind_text
returns c =
    let a = c.args in
    let p = c.put_bytes-next.ensures.put (omega (arith, c.requires.1)) in
    let q = c.put_digits.ensures in
    record { put = rw (ne_eqb _ _ c.if-fraction-eq0.false) (put_both a.out.now a.at (46 ∷ []) (digits_text 13 a.fraction) (omega (arith, c.requires.1, p.next, q.upper_bound)) p q.put); upper_bound = omega (arith, p.next, q.upper_bound) }
