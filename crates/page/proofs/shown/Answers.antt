-- At most (49480 - 328) / 48.
use native.Mathlib.Omega.{arith}
use borrow.Author.Tests.{lt-ltb, le-ltb}
use Rattle.ledger.specs.Calls.{rows_in}
use Rattle.page.specs.Page.{shown_of}
use Rattle.page.proofs.shown.Goals as goal

pub returns-then-sheet-gt-LARGEST : goal.returns-then-sheet-gt-LARGEST
unfolding shown_of
returns-then-sheet-gt-LARGEST c = (simp (lt-ltb _ _ c.if-sheet-gt-LARGEST.true), omega arith)

pub overflow_cast-result : goal.overflow_cast-result
unfolding rows_in
overflow_cast-result c = omega (arith, c.rows_in.ensures)

pub returns : goal.returns
unfolding shown_of rows_in
returns c = (simp (le-ltb _ _ c.if-sheet-gt-LARGEST.false) c.rows_in.ensures, omega (arith, c.rows_in.ensures))
