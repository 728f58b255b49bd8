-- The word, then the pattern.
use Rattle.std.proofs.Common.{◌++◌, arith, append_assoc}
use Rattle.laws.specs.Ascii.{ascii}
use Rattle.text.specs.Text.{pattern, end}
use Rattle.text.specs.laws.Digits.{pattern-most}
use Rattle.placing.specs.laws.Placing.{piece, follow}
use Rattle.page.specs.Page.{total_line}
use Rattle.page.proofs.put_total_line.Goals as goal

pub returns : goal.returns
unfolding total_line
returns c =
    let a = c.args in
    let s = a.out.now in
    let n = c.to_pattern.result in
    let p = piece s a.at 6 (ascii "total ") (omega arith) (omega arith) c.put_bytes-a.ensures in
    let q = follow s a.at 6 17 (ascii "total ") (pattern n ++ end) (pattern-most n 10) (omega arith) p c.put_pattern.ensures in
    simp append_assoc (rw (c.to_pattern.ensures, c.total.ensures) at q)
