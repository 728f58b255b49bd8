-- Words and a number, by the refusal.
use native.Mathlib.Omega.{arith}
use borrow.Author.Tests.{eq-eqb, ne_eqb}
use Rattle.monthly.specs.Monthly.{stop_text}
use Rattle.monthly.proofs.put_stop.Goals as goal

pub returns-then-refusal-eq10 : goal.returns-then-refusal-eq10
unfolding stop_text
returns-then-refusal-eq10 c = let p = c.put_note.ensures in
    record { put = rw (eq-eqb _ 10 c.if-refusal-eq10.true) p.put; upper_bound = omega (arith, p.short) }

pub returns : goal.returns
unfolding stop_text
returns c = let p = c.put_note-2.ensures in
    record { put = rw (ne_eqb _ 10 c.if-refusal-eq10.false) p.put; upper_bound = omega (arith, p.short) }
