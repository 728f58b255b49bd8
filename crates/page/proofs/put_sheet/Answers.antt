-- The rows, the counts, the total.
use Rattle.std.proofs.Common.{◌++◌, ◌+◌, ◌*◌, arith, le-ltb}
use Rattle.placing.specs.laws.Placing.{join, looser}
use Rattle.page.specs.Page.{row_lines, counts_line, total_line, shown_of, page_of}
use Rattle.page.proofs.put_sheet.Goals as goal

pub returns : goal.returns
unfolding page_of shown_of
returns c =
    let a = c.args in
    let s = a.sheet.now in
    let out = a.out.now in
    let rows = c.shown-rows in
    let r = rows.result in
    let fits = le-ltb _ _ c.requires.0 in
    let p = join out 0 (54 * r) 62 (row_lines s r) (counts_line s) (omega arith) c.put_rows-a.ensures c.put_counts_line-b.ensures in
    let q = join out 0 (54 * r + 62) 23 (row_lines s r ++ counts_line s) (total_line s) (omega arith) p c.put_total_line.ensures in
    let whole = looser out 0 (54 * r + 62 + 23) 55424 _ (omega arith) q in
    simp fits (rw (rows.ensures.0, fits) at whole)
