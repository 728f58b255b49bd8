-- By the refusal's number.
use native.Mathlib.Omega.{arith}
use borrow.Author.Tests.{eq-eqb, ne_eqb}
use Rattle.laws.specs.Ascii.{ascii}
use Rattle.text.specs.laws.Writing.{placed}
use Rattle.differing.specs.Differing.{stop_text}
use Rattle.differing.proofs.put_stop.Goals as goal

pub returns-then-refusal-eq13 : goal.returns-then-refusal-eq13
unfolding stop_text
returns-then-refusal-eq13 c =
    let a = c.args in
    let p = placed a.out.now 0 10 10 (ascii "refused 13") (omega arith) (omega arith) (omega arith) c.put_bytes.ensures in
    rw (eq-eqb a.refusal 13 c.if-refusal-eq13.true) record { put = p.0; upper_bound = omega (arith, p.1, p.2) }

pub returns-then-refusal-eq10 : goal.returns-then-refusal-eq10
unfolding stop_text
returns-then-refusal-eq10 c =
    let a = c.args in
    rw (ne_eqb a.refusal 13 c.if-refusal-eq13.false, eq-eqb a.refusal 10 c.if-refusal-eq10.true) c.put_rejected.ensures

pub returns : goal.returns
unfolding stop_text
returns c =
    let a = c.args in
    let p = placed a.out.now 0 10 10 (ascii "refused 7 ") (omega arith) (omega arith) (omega arith) c.put_bytes-2.ensures in
    rw (ne_eqb a.refusal 13 c.if-refusal-eq13.false, ne_eqb a.refusal 10 c.if-refusal-eq10.false) record { put = p.0; upper_bound = omega (arith, p.1, p.2) }
