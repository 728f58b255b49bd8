-- Does not read, goes out, differs; or none of them.
use Rattle.std.proofs.Common.{◌≡◌, Some, None, length, take_all, refl, arith}
use borrow.Author.Tests.{eq-eqb, ne_eqb}
use Rattle.hextext.specs.HexText.{differ_of, halt_of, halts_at, line_halt}
use Rattle.hextext.proofs.row.line_halt.Goals as goal

pub returns-in-Some : goal.returns-in-Some
unfolding line_halt halts_at halt_of
returns-in-Some c = rw (← c.in-Some.ensures, c.malformed.ensures) refl

pub returns-then-value-eq-WITHDRAWN : goal.returns-then-value-eq-WITHDRAWN
unfolding line_halt halts_at halt_of
returns-then-value-eq-WITHDRAWN c =
    rw (← c.in_default.ensures) (rw (← c.value.ensures, eq-eqb _ 1 c.if-value-eq-WITHDRAWN.true) refl)

pub returns-in-Some-differ : goal.returns-in-Some-differ
unfolding line_halt halts_at halt_of
returns-in-Some-differ c =
    let l = c.args.line.now in
    let all = take_all (length l) l (omega arith) in
    let e : differ_of l ≡ Some c.in-Some-differ.column = grind (arith, all) in
    rw (← c.in_default.ensures) (rw (← c.value.ensures, ne_eqb _ 1 c.if-value-eq-WITHDRAWN.false) (rw (e, c.malformed-in-Some-differ.ensures) refl))

pub returns : goal.returns
unfolding line_halt halts_at halt_of
returns c =
    let l = c.args.line.now in
    let all = take_all (length l) l (omega arith) in
    let e : differ_of l ≡ None = grind (arith, all) in
    rw (← c.in_default.ensures) (rw (← c.value.ensures, ne_eqb _ 1 c.if-value-eq-WITHDRAWN.false) (rw e refl))
