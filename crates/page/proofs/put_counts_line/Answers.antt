-- The word, four counts, the last one.
use Rattle.std.proofs.Common.{◌++◌, arith, append_assoc}
use Rattle.laws.specs.Ascii.{ascii}
use Rattle.text.specs.Text.{decimal, end}
use Rattle.text.specs.laws.Digits.{field-length}
use Rattle.placing.specs.laws.Placing.{piece, join, follow_within}
use Rattle.page.specs.Page.{count_fields, counts_line}
use Rattle.page.proofs.put_counts_line.Goals as goal

pub returns : goal.returns
unfolding counts_line
returns c =
    let a = c.args in
    let s = a.out.now in
    let n = c.count.result in
    let last = field-length n 10 10 (omega arith) (omega arith) (omega arith) in
    let p = piece s a.at 7 (ascii "counts ") (omega arith) (omega arith) c.put_bytes-a.ensures in
    let q = join s a.at 7 44 (ascii "counts ") (count_fields a.sheet.now 4) (omega arith) p c.put_counts-b.ensures in
    let r = follow_within s a.at 51 21 11 _ (decimal n ++ end) last (omega arith) (omega arith) q c.put_decimal.ensures in
    simp append_assoc (rw c.count.ensures at r)
