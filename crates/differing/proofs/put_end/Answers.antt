-- The difference and the count are those of the two sheets.
use Rattle.differing.specs.Differing.{end_of}
use Rattle.differing.proofs.put_end.Goals as goal

pub returns : goal.returns
unfolding end_of
returns c =
    let g = c.grown-growth.ensures in
    let n = c.changed_rows-rows.ensures in
    rw (g.0, g.1, n) at c.put_sums.ensures
