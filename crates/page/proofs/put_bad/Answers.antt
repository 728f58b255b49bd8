-- The words are those of the definition.
use Rattle.std.proofs.Common.{arith}
use Rattle.page.specs.Page.{bad_line}
use Rattle.page.proofs.put_bad.Goals as goal

pub returns : goal.returns
unfolding bad_line
returns c = let p = c.put_note.ensures in record { put = p.put; upper_bound = omega (arith, p.short, p.same) }
