-- Test by test.
use Rattle.std.proofs.Common.{◌≡◌, Some, None, refl, arith}
use borrow.Author.Tests.{le-leb, lt-leb}
use Rattle.laws.specs.Ladder.{held, passed}
use Rattle.hexline.specs.Fields.{bad_from, stop_at, stop_of}
use Rattle.hexline.proofs.fields.stop.Goals as goal

pub returns-in-Some : goal.returns-in-Some
unfolding stop_of stop_at
returns-in-Some c =
    let e : bad_from c.args.line.now 8 0 ≡ Some c.in-Some.j = grind arith in
    rw (e, c.column.ensures) refl

pub returns-then-ninth-line : goal.returns-then-ninth-line
unfolding stop_of stop_at
returns-then-ninth-line c =
    let e : bad_from c.args.line.now 8 0 ≡ None = grind arith in
    rw e (rw (← c.place-ninth.ensures) (held _ _ (le-leb _ _ c.if-ninth-line.true) refl))

pub returns-else-ninth-line : goal.returns-else-ninth-line
unfolding stop_of stop_at
returns-else-ninth-line c =
    let e : bad_from c.args.line.now 8 0 ≡ None = grind arith in
    rw e (rw (← c.place-ninth.ensures) (passed _ _ (lt-leb _ _ c.if-ninth-line.false) refl))
