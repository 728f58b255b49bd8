-- The body is the definition, each call replaced by what it ensures.
use Rattle.std.proofs.Common.{sym, ◌∙◌}
use Rattle.laws.specs.Ladder.{held, passed}
use Rattle.ellipf.specs.Ellipf.{recipe_of}
use Rattle.ellipf.proofs.recipe.Goals as goal

pub returns-then-infinite : goal.returns-then-infinite
unfolding recipe_of
returns-then-infinite c =
    held _ _ (sym c.infinite.ensures ∙ c.if-infinite.true) (rw (c.of_rf.ensures, c.rf-f.ensures))

pub returns-then-large : goal.returns-then-large
unfolding recipe_of
returns-then-large c =
    passed _ _ (sym c.infinite.ensures ∙ c.if-infinite.false)
    (held _ _ (sym c.large.ensures ∙ c.if-large.true) (rw (c.of_rf-then-large.ensures, c.rf-f-then-large.ensures, c.middle-y.ensures)))

pub returns : goal.returns
unfolding recipe_of
returns c =
    passed _ _ (sym c.infinite.ensures ∙ c.if-infinite.false)
    (passed _ _ (sym c.large.ensures ∙ c.if-large.false) (rw (c.of_rf-2.ensures, c.rf-f-2.ensures, c.middle-y.ensures)))
