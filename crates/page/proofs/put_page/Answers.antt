-- More bytes than a sheet has print nothing.
use native.Mathlib.Omega.{arith}
use borrow.Author.Tests.{lt-ltb}
use Rattle.page.specs.Page.{page_of}
use Rattle.text.specs.laws.Writing.{put_none}
use Rattle.page.proofs.put_page.Goals as goal

pub returns-then-sheet-gt-LARGEST : goal.returns-then-sheet-gt-LARGEST
unfolding page_of
returns-then-sheet-gt-LARGEST c = record { put = simp (lt-ltb _ _ c.if-sheet-gt-LARGEST.true) (put_none _ 0); upper_bound = omega arith }
