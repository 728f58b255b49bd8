-- One after the other: three numbers, of a row below 1,024 and of two bytes, two patterns, and a number of at most five digits.
use Rattle.std.proofs.Common.{◌++◌, get_or, arith, append_assoc}
use Rattle.text.specs.Text.{decimal, pattern, three, space, end}
use Rattle.text.specs.laws.Digits.{three-length, field-length, pattern-most}
use Rattle.placing.specs.laws.Placing.{within, follow_within, looser}
use Rattle.page.specs.Page.{head_text, answers_text, row_text}
use Rattle.page.proofs.row.put_text.Goals as goal

pub returns : goal.returns
unfolding row_text head_text answers_text three
returns c =
    let a = c.args in
    let s = a.out.now in
    let w = a.row.now in
    let function = get_or w 0 0 in
    let refusal = get_or w 1 0 in
    let head = three-length a.i function refusal 32 4 3 3 (omega arith, omega arith, omega arith) (omega arith, omega arith, omega arith) (omega arith, omega arith, omega arith) in
    let five = field-length a.times 10 5 (omega arith) (omega arith) (omega arith) in
    let p = within s a.at 63 13 (three a.i function refusal ++ space) head (omega arith) (omega arith) c.put_three-a.ensures in
    let first = c.pattern_at.result in
    let second = c.pattern_at-2.result in
    let q = follow_within s a.at 13 17 17 _ (pattern first ++ space) (pattern-most first 32) (omega arith) (omega arith) p c.put_pattern-b.ensures in
    let r = follow_within s a.at 30 17 17 _ (pattern second ++ space) (pattern-most second 32) (omega arith) (omega arith) q c.put_pattern-c.ensures in
    let whole = follow_within s a.at 47 21 6 _ (decimal a.times ++ end) five (omega arith) (omega arith) r c.put_decimal.ensures in
    rw (← c.pattern_at.ensures, ← c.pattern_at-2.ensures) (simp append_assoc (simp append_assoc at (looser s a.at 53 54 _ (omega arith) whole)))
