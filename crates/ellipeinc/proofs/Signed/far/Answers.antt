-- The body is the definition, each call replaced by what it ensures.
use mathlib.Core.Path.{refl}
use Rattle.laws.specs.Ladder.{held, passed}
use Rattle.ellipeinc.specs.Ellipeinc.{far_of}
use Rattle.ellipeinc.proofs.Signed.far.Goals as goal

pub returns-then-m : goal.returns-then-m
unfolding far_of
returns-then-m c = held _ _ c.if-m.true refl

pub returns : goal.returns
unfolding far_of
returns c = passed _ _ c.if-m.false (rw (← c.complete_e-e.ensures) c.handed.ensures)
