-- The words are those of the definition.
use Rattle.std.proofs.Common.{arith}
use Rattle.page.specs.Page.{failed_line}
use Rattle.page.proofs.put_failed.Goals as goal

pub returns : goal.returns
unfolding failed_line
returns c = let p = c.put_note.ensures in record { put = p.put; upper_bound = omega (arith, p.short, p.same) }
