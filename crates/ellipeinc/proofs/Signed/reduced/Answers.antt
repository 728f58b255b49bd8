-- Down the tests, each call replaced by what it ensures.
use mathlib.Core.Path.{sym, ap, ◌∙◌}
use Rattle.laws.specs.Ladder.{held, passed}
use Rattle.answer.specs.Settle.{unasked_of}
use Rattle.ellipeinc.specs.Ellipeinc.{reduced_of}
use Rattle.ellipeinc.proofs.Signed.reduced.Goals as goal

pub returns-then-own : goal.returns-then-own
unfolding reduced_of
returns-then-own c =
    rw (← c.folded-f.ensures) (held _ _ (sym c.own.ensures ∙ c.if-own.true) (c.unasked.ensures ∙ ap unasked_of c.with_periods.ensures))

pub returns : goal.returns
unfolding reduced_of
returns c =
    rw (← c.folded-f.ensures) (passed _ _ (sym c.own.ensures ∙ c.if-own.false) c.by_recipe.ensures)
