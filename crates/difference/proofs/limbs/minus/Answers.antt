-- The invariant: the first limbs are those of the difference, but for what they borrowed.
use Rattle.std.proofs.Common.{arith, ◌≡◌}
use Rattle.difference.proofs.Borrowing.{minus_none, minus_next, left, larger}
use Rattle.difference.proofs.limbs.minus.Goals as goal

pub loop-i-init : goal.loop-i-init
loop-i-init c = minus_none _ _ c.well_formed.0.1.0.1

pub loop-i-preserved : goal.loop-i-preserved
loop-i-preserved c =
    let l = c.loop-i in
    minus_next _ _ l.out l.borrow l.i _ _ c.well_formed.0.1.0.1 c.well_formed.1.0.1.0.1 c.loop-i-test.true l.invariant c.borrowing_sub-limb.ensures (omega (arith, c.borrowing_sub-limb.type_inv))

pub returns-then-borrow : goal.returns-then-borrow
returns-then-borrow c =
    let e : c.loop-i.i ≡ 34 = omega arith in
    larger _ _ c.loop-i.out _ c.well_formed.0.1.0.1 c.well_formed.1.0.1.0.1 (rw e at c.loop-i.invariant) c.if-borrow.true

pub returns-else-borrow : goal.returns-else-borrow
returns-else-borrow c =
    let e : c.loop-i.i ≡ 34 = omega arith in
    left _ _ c.loop-i.out _ c.well_formed.0.1.0.1 c.well_formed.1.0.1.0.1 (rw e at c.loop-i.invariant) c.if-borrow.false
