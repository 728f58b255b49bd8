-- Head, sums, extremes and refusals, one after the other.
use native.Mathlib.Omega.{arith}
use mathlib.Core.List.{◌++◌}
use Rattle.total.specs.Total.{val}
use Rattle.monthly.specs.Monthly.{head_text, sums_text, extremes_text, refusal_lines, report_text}
use Rattle.placing.specs.laws.Placing.{join}
use Rattle.monthly.proofs.put_lines.Goals as goal

pub returns : goal.returns
unfolding report_text
returns c = let a = c.args in
    let s = a.out.now in
    let r = a.report in
    let x = head_text r.sheets a.apart r.counts in
    let y = sums_text (val r.total.limbs) in
    let z = extremes_text r.largest r.smallest in
    let both = join s 0 167 575 x y (omega arith) c.put_head-a.ensures c.put_sums-b.ensures in
    let three = join s 0 742 155 (x ++ y) z (omega arith) both c.put_extremes-c.ensures in
    join s 0 897 1600 (x ++ y ++ z) (refusal_lines r.refusals 32) (omega arith) three c.put_refusals.ensures
