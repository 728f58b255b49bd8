-- Down the tests: what `&&` and `||` leave out is not asked.
use Rattle.ellipf.specs.Ellipf.{pole_of}
use Rattle.ellipf.proofs.hides_pole.Goals as goal

pub returns-then-not-m : goal.returns-then-not-m
unfolding pole_of
returns-then-not-m c = rw c.if-not-m.true

pub returns-then-magnitude : goal.returns-then-magnitude
unfolding pole_of
returns-then-magnitude c = rw (c.if-not-m.false, ← c.magnitude.ensures, c.if-magnitude.true)

pub returns : goal.returns
unfolding pole_of
returns c =
    rw (c.if-not-m.false, ← c.magnitude.ensures, c.if-magnitude.false, c.sine-s.ensures)
