-- An argument is kept where its place is below the count of those read.
use borrow.Author.Tests.{lt-ltb, le-ltb}
use Rattle.sheet.specs.Edit.{keep}
use Rattle.sheet.proofs.row.argument.Goals as goal

pub returns-then-k-used : goal.returns-then-k-used
unfolding keep
returns-then-k-used c = rw (← c.used.ensures, lt-ltb _ _ c.if-k-used.true)

pub returns-else-k-used : goal.returns-else-k-used
unfolding keep
returns-else-k-used c = rw (← c.used.ensures, le-ltb _ _ c.if-k-used.false)
