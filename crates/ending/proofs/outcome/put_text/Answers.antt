-- The line instead, or the page of the sheet in its memory.
use Rattle.std.proofs.Common.{◌≡◌, true, false, refl, sym, ap, ◌∙◌, subst, arith}
use Rattle.text.specs.Writing.{Put}
use Rattle.ending.specs.Outcome.{state_of}
use Rattle.ending.specs.laws.Texts.{instead, shown}
use Rattle.ending.proofs.outcome.put_text.Goals as goal

pub returns-in-Err-clause-put : goal.returns-in-Err-clause-put
returns-in-Err-clause-put g c =
    rw c.in-Err.is (rw (← instead g.P.Page.text c.in-Err.field-0 c.args.sheet.now true refl) (rw c.in-Err.is at c.put_instead.ensures.put))

pub returns-in-Ok-clause-put : goal.returns-in-Ok-clause-put
returns-in-Ok-clause-put g c =
    let i = c.put_instead-in-Ok in
    rw c.in-Ok.is (rw (← instead g.P.Page.text c.in-Ok.st c.args.sheet.now false c.if-st.true) (subst (Put c.args.out.now i.new.out 0 i.result) (grind arith) i.ensures.put))

pub returns-in-Ok-2-clause-put : goal.returns-in-Ok-2-clause-put
returns-in-Ok-2-clause-put g c =
    let same : c.in-Ok.st ≡ c.in-Ok-2.st = ap state_of (sym c.in-Ok.is ∙ c.in-Ok-2.is) in
    let good : c.in-Ok-2.st.bad ≡ false = rw same at c.if-st.false in
    rw c.in-Ok-2.is (rw (← shown g.P.Page.text c.in-Ok-2.st c.args.sheet.now false good, ← c.bytes.ensures) c.put.ensures.put)
