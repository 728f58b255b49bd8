-- An infinity, or 0x, a digit, those behind the point, and the exponent.
use native.Mathlib.Omega.{arith}
use mathlib.Core.List.{◌∷◌, ◌++◌, append_assoc, []}
use borrow.Author.Tests.{eq-eqb, ne_eqb}
use Rattle.text.specs.laws.Writing.{put_both}
use Rattle.hexfloat.specs.Spelled.{lead_of, behind_text, exponent_text, size_text}
use Rattle.hexfloat.proofs.writing.put_size.Goals as goal

pub returns-then-field-eq2047 : goal.returns-then-field-eq2047
unfolding size_text
returns-then-field-eq2047 c =
    let p = c.put_bytes.ensures.put (omega (arith, c.requires.2)) in
    record { put = rw (eq-eqb _ _ c.if-field-eq2047.true) p; upper_bound = omega (arith, p.next) }

pub put_behind-b-requires : goal.put_behind-b-requires
put_behind-b-requires c =
    let p = c.put_bytes-a.ensures.put (omega (arith, c.requires.2)) in
    (c.requires.1, omega (arith, c.requires.2, p.next))

pub put_exponent-requires : goal.put_exponent-requires
put_exponent-requires c =
    let p = c.put_bytes-a.ensures.put (omega (arith, c.requires.2)) in
    (c.requires.0, omega (arith, c.requires.2, p.next, c.put_behind-b.ensures.upper_bound))

pub returns : goal.returns
unfolding size_text
returns c =
    let a = c.args in
    let p = rw c.lead.ensures at (c.put_bytes-a.ensures.put (omega (arith, c.requires.2))) in
    let q = c.put_behind-b.ensures in
    let r = c.put_exponent.ensures in
    let front = put_both a.out.now a.at (48 ∷ (120 ∷ (lead_of a.field ∷ []))) (behind_text a.fraction) (omega (arith, c.requires.2, p.next, q.upper_bound)) p q.put in
    let all = put_both a.out.now a.at (48 ∷ (120 ∷ (lead_of a.field ∷ behind_text a.fraction))) (exponent_text a.field a.fraction ++ (a.after ∷ [])) (omega (arith, c.requires.2, p.next, q.upper_bound, r.upper_bound)) front r.put in
    record { put = rw (ne_eqb _ _ c.if-field-eq2047.false) (simp append_assoc all); upper_bound = omega (arith, p.next, q.upper_bound, r.upper_bound) }
