-- One return for each sign of m.
use Rattle.ellipeinc.specs.Ellipeinc.{recipe_of}
use Rattle.ellipeinc.proofs.recipe.Goals as goal

pub returns-then-m : goal.returns-then-m
unfolding recipe_of
returns-then-m c = simp (c.if-m.true, c.below.ensures)

pub returns : goal.returns
unfolding recipe_of
returns c = simp (c.if-m.false, c.above.ensures)
