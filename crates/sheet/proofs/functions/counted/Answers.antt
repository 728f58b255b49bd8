-- One return for each function's number, and one for all others.
use Rattle.sheet.specs.Functions.{counted_of}
use mathlib.Core.Path.{sym, ◌∙◌}
use native.Mathlib.Omega.{arith}
use Rattle.sheet.specs.laws.Evaluated.{counted-beyond}
use Rattle.sheet.proofs.functions.counted.Goals as goal

pub returns-in-0 : goal.returns-in-0
unfolding counted_of
returns-in-0 c = rw (c.unasked.ensures, c.in-0.is)

pub returns-in-1 : goal.returns-in-1
unfolding counted_of
returns-in-1 c =
    rw (c.unasked-in-1.ensures, c.ellipk.ensures, c.from_pattern-x.ensures, c.in-1.is)

pub returns-in-2 : goal.returns-in-2
unfolding counted_of
returns-in-2 c =
    rw (c.unasked-in-2.ensures, c.ellipe.ensures, c.from_pattern-x.ensures, c.in-2.is)

pub returns-in-3 : goal.returns-in-3
unfolding counted_of
returns-in-3 c =
    rw (c.unasked-in-3.ensures, c.ellipke.ensures, c.from_pattern-x.ensures, c.in-3.is)

pub returns-in-4 : goal.returns-in-4
unfolding counted_of
returns-in-4 c =
    rw (c.ellippi.ensures, c.from_pattern-x.ensures, c.from_pattern-y.ensures, c.in-4.is)

pub returns-in-5 : goal.returns-in-5
unfolding counted_of
returns-in-5 c =
    rw (c.ellipeinc.ensures, c.from_pattern-x.ensures, c.from_pattern-y.ensures, c.in-5.is)

pub returns-in-6 : goal.returns-in-6
unfolding counted_of
returns-in-6 c =
    rw (c.ellipf.ensures, c.from_pattern-x.ensures, c.from_pattern-y.ensures, c.in-6.is)

pub returns-in_default : goal.returns-in_default
returns-in_default c =
    let a = c.args in
    c.unasked-in_default.ensures ∙ sym (counted-beyond a.function a.a a.b a.c (omega arith))
