-- The body is the definition, each call replaced by what it ensures.
use Rattle.laws.specs.Ladder.{held, passed}
use Rattle.ellipeinc.specs.Ellipeinc.{by_recipe_of}
use Rattle.ellipeinc.proofs.Signed.by_recipe.Goals as goal

pub returns-then-m-s : goal.returns-then-m-s
unfolding by_recipe_of
returns-then-m-s c = rw (← c.on_circle-p.ensures.0) (held _ _ c.if-m-s.true c.unasked.ensures)

pub returns : goal.returns
unfolding by_recipe_of
returns c =
    let p = c.on_circle-p.ensures in
    rw (← p.0, ← p.1, ← c.recipe-e.ensures) (passed _ _ c.if-m-s.false (rw c.with_periods.ensures))
