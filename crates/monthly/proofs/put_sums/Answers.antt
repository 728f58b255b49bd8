-- The two lines, one after the other.
use native.Mathlib.Omega.{arith}
use Rattle.total.specs.Total.{val}
use Rattle.monthly.specs.Monthly.{total_text, exact_text, sums_text}
use Rattle.placing.specs.laws.Placing.{join}
use Rattle.monthly.proofs.put_sums.Goals as goal

pub returns : goal.returns
unfolding sums_text
returns c = let a = c.args in
    let v = val a.total.limbs in
    join a.out.now a.at 23 552 (total_text v) (exact_text v) (omega arith) c.put_total-a.ensures c.put_exact.ensures
