-- The two lines, one after the other.
use native.Mathlib.Omega.{arith}
use Rattle.laws.specs.Ascii.{ascii}
use Rattle.monthly.specs.Monthly.{extreme_text, extremes_text}
use Rattle.placing.specs.laws.Placing.{join}
use Rattle.monthly.proofs.put_extremes.Goals as goal

pub returns : goal.returns
unfolding extremes_text
returns c = let a = c.args in
    join a.out.now a.at 77 78 (extreme_text (ascii "largest ") a.largest) (extreme_text (ascii "smallest ") a.smallest) (omega arith) c.put_extreme-a.ensures c.put_extreme.ensures
