-- By cases.
use Rattle.conversion.specs.Conversion.{is_forth}
use Rattle.conversion.proofs.word_before.Goals as goal

pub returns-in-Forth : goal.returns-in-Forth
unfolding is_forth
returns-in-Forth c = rw c.in-Forth.is

pub returns-in-Back : goal.returns-in-Back
unfolding is_forth
returns-in-Back c = rw c.in-Back.is
