-- The body is the definition, each call replaced by what it ensures.
use Rattle.laws.specs.Ladder.{held, passed}
use Rattle.ellipf.specs.Ellipf.{reduced_of}
use Rattle.ellipf.proofs.reduced.Goals as goal

pub returns-then-m-s : goal.returns-then-m-s
unfolding reduced_of
returns-then-m-s c = rw (← c.folded-f.ensures, ← c.on_circle-p.ensures.0) (held _ _ c.if-m-s.true c.unasked.ensures)

pub returns : goal.returns
unfolding reduced_of
returns c =
    let p = c.on_circle-p.ensures in
    rw (← c.folded-f.ensures, ← p.0, ← p.1, ← c.recipe-t.ensures) (passed _ _ c.if-m-s.false (rw c.with_periods.ensures))
