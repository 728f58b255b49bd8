-- No row, no line; else a note and a number.
use native.Mathlib.Omega.{arith}
use mathlib.Core.List.{◌++◌, append_assoc}
use borrow.Author.Tests.{eq-eqb, ne_eqb}
use Rattle.laws.specs.Ascii.{ascii}
use Rattle.text.specs.Text.{decimal, space, end}
use Rattle.text.specs.laws.Digits.{field-most}
use Rattle.monthly.specs.Monthly.{note, refusal_text}
use Rattle.placing.specs.laws.Placing.{nothing, follow}
use Rattle.monthly.proofs.lines.put_refusal.Goals as goal

pub returns-then-rows-eq0 : goal.returns-then-rows-eq0
unfolding refusal_text
returns-then-rows-eq0 c = rw (eq-eqb _ 0 c.if-rows-eq0.true) (nothing _ _ 50)

pub returns : goal.returns
unfolding refusal_text
returns c = let a = c.args in
    let both = follow a.out.now a.at 29 21 (note (ascii "refusal ") a.number ++ space) (decimal a.rows ++ end) (field-most a.rows 10) (omega arith) c.put_note-a.ensures c.put_decimal.ensures in
    rw (ne_eqb a.rows 0 c.if-rows-eq0.false) (simp append_assoc (simp append_assoc at both))
