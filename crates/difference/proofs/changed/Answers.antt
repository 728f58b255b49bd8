-- Test by test.
use Rattle.std.proofs.Common.{◌∙◌, sym, rules}
use Rattle.difference.proofs.Changes.{unchanged, moved, alike, far}
use Rattle.difference.proofs.changed.Goals as goal

pub returns-then-agreeing : goal.returns-then-agreeing
returns-then-agreeing c = unchanged _ _ _ (sym c.agreeing.ensures ∙ c.if-agreeing.true)

pub returns-then-ne : goal.returns-then-ne
returns-then-ne c = moved _ _ _ _ _ (sym c.agreeing.ensures ∙ c.if-agreeing.false) c.row_class-from.ensures c.row_class-to.ensures (search rules)

pub returns-then-ne-2 : goal.returns-then-ne-2
returns-then-ne-2 c = alike _ _ _ _ _ (sym c.agreeing.ensures ∙ c.if-agreeing.false) c.row_class-from.ensures c.row_class-to.ensures (search rules) (search rules)

pub returns : goal.returns
returns c = far _ _ _ _ _ (sym c.agreeing.ensures ∙ c.if-agreeing.false) c.row_class-from.ensures c.row_class-to.ensures (search rules) (search rules) _ c.distance.ensures
