-- 18, 22, or another number.
use borrow.Author.Tests.{ne_eqb}
use Rattle.answer.specs.Numbers.{number}
use Rattle.reading.specs.Taken.{halt_line}
use Rattle.reading.proofs.Others.{other}
use Rattle.reading.proofs.saying.put_halt.Goals as goal

pub returns-in-Malformed : goal.returns-in-Malformed
unfolding halt_line
returns-in-Malformed c = rw c.in-Malformed.is c.put_18.ensures

pub returns-in-Withdrawn : goal.returns-in-Withdrawn
unfolding halt_line
returns-in-Withdrawn c = rw c.in-Withdrawn.is c.put_number.ensures

pub returns-in_default : goal.returns-in_default
unfolding halt_line
returns-in_default c =
    let q = c.args.h.refusal in
    let o = other q c.in_default.not-Malformed c.in_default.not-Withdrawn in
    rw (ne_eqb (number q) 18 o.0, ne_eqb (number q) 22 o.1) (rw c.number.ensures at c.put_number-in_default.ensures)
