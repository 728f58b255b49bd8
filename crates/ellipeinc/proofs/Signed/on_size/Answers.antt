-- Down steps 5, 7 and 8: the i-th return passed the tests before its own.
use mathlib.Core.Path.{ap, ◌∙◌}
use Rattle.laws.specs.Ladder.{held, passed}
use Rattle.answer.specs.Settle.{unasked_of}
use Rattle.ellipeinc.specs.Ellipeinc.{on_size_of}
use Rattle.ellipeinc.proofs.Signed.on_size.Goals as goal

pub returns-then-self : goal.returns-then-self
unfolding on_size_of
returns-then-self c =
    held _ _ c.if-self.true (c.unasked.ensures ∙ ap unasked_of c.far.ensures)

pub returns-then-m : goal.returns-then-m
unfolding on_size_of
returns-then-m c =
    passed _ _ c.if-self.false (held _ _ c.if-m.true (c.unasked-then-m.ensures ∙ ap unasked_of c.line.ensures))

pub returns : goal.returns
unfolding on_size_of
returns c =
    passed _ _ c.if-self.false (passed _ _ c.if-m.false c.reduced.ensures)
