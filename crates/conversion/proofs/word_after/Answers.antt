-- What the other way asks.
use Rattle.conversion.specs.Conversion.{is_forth}
use Rattle.conversion.proofs.word_after.Goals as goal

pub returns-in-Forth : goal.returns-in-Forth
unfolding is_forth
returns-in-Forth c = rw c.in-Forth.is c.word_before.ensures

pub returns-in-Back : goal.returns-in-Back
unfolding is_forth
returns-in-Back c = rw c.in-Back.is c.word_before-in-Back.ensures
