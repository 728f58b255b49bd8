-- The counts so far stand in the buffer, at most 11 bytes each.
use Rattle.std.proofs.Common.{◌≡◌, ◌++◌, ◌+◌, ◌*◌, suc, arith, add-one}
use Rattle.text.specs.Text.{decimal, space}
use Rattle.text.specs.laws.Digits.{field-length}
use Rattle.placing.specs.laws.Placing.{nothing, follow_within}
use Rattle.page.specs.Page.{count_fields}
use Rattle.page.proofs.put_counts.Goals as goal

pub loop-class-init : goal.loop-class-init
unfolding count_fields
loop-class-init c = nothing c.args.out.now c.args.from 0

pub loop-class-preserved : goal.loop-class-preserved
unfolding count_fields
loop-class-preserved c =
    let a = c.args in
    let l = c.loop-class in
    let n = c.count.result in
    let short = field-length n 32 10 (omega arith) (omega arith) (omega arith) in
    let p = follow_within a.out.now a.from (11 * l.class) 21 11 (count_fields a.sheet.now l.class) (decimal n ++ space) short (omega arith) (omega arith) l.invariant c.put_decimal-at.ensures in
    let k : 11 * suc l.class ≡ 11 * l.class + 11 = omega arith in
    rw (add-one, k, ← c.count.ensures) p
