-- The invariant: the limbs and what is left to carry are in balance with the word asked for.
use Rattle.std.proofs.Common.{◌+◌, ◌*◌, ◌<◌, ◌≤◌, length, set, refl, sym, ap, ◌∙◌, subst, add-zero, arith, rules}
use Rattle.std.specs.Int.{from_bool}
use Rattle.total.specs.Total.{val}
use Rattle.total.specs.Carry.{W}
use Rattle.total.specs.laws.Limbs.{Fit}
use Rattle.total.proofs.Carrying.{spent, gone, reach}
use Rattle.total.proofs.Lent.{joined, joined-start, joined-end, part-length, same-length, still_fit, carried}
use Rattle.total.proofs.limbs.ripple.Goals as goal

pub loop-limb-init : goal.loop-limb-init
loop-limb-init c =
    let a = c.args in
    let l = a.limbs.now in
    let start = joined-start l a.at (omega arith) in
    record {
      whole = ap length start ∙ c.requires.0;
      fit = subst Fit (sym start) (λ i. search rules);
      balance = rw (start, add-zero) refl;
    }

pub returns-then-not-carried : goal.returns-then-not-carried
returns-then-not-carried c =
    let a = c.args in
    let l = a.limbs.now in
    let s = c.loop-limb in
    let z = c.step-sum.result.0 in
    let h : a.at ≤ length l = omega arith in
    let n : a.at + s.limb-index < length (joined a.at l s.limb-items) = omega (arith, part-length l a.at h) in
    let b = carried l a.at h s.limb-items s.limb-index z a.negative (val l) (W a.at * a.word) s.carry (from_bool c.step-sum.result.1) n c.step-sum.ensures s.invariant.balance in
    joined-end l a.at h (set s.limb-items s.limb-index z)
    ∙ spent a.negative (joined a.at l (set s.limb-items s.limb-index z)) (val l) (W a.at * a.word) (a.at + (s.limb-index + 1)) (from_bool c.step-sum.result.1)
    (same-length l a.at h s.limb-items s.limb-index z s.invariant.whole) (still_fit l a.at h s.limb-items s.limb-index z s.invariant.fit (omega arith))
    (reach a.at a.word c.requires.1 c.ranges.word.fits) (ap from_bool c.if-not-carried.true) b

pub loop-limb-preserved : goal.loop-limb-preserved
loop-limb-preserved c =
    let a = c.args in
    let l = a.limbs.now in
    let s = c.loop-limb in
    let z = c.step-sum.result.0 in
    let h : a.at ≤ length l = omega arith in
    let n : a.at + s.limb-index < length (joined a.at l s.limb-items) = omega (arith, part-length l a.at h) in
    let b = carried l a.at h s.limb-items s.limb-index z a.negative (val l) (W a.at * a.word) s.carry (from_bool c.step-sum.result.1) n c.step-sum.ensures s.invariant.balance in
    record {
      whole = same-length l a.at h s.limb-items s.limb-index z s.invariant.whole;
      fit = still_fit l a.at h s.limb-items s.limb-index z s.invariant.fit (omega arith);
      balance = rw c.if-not-carried.false at b;
    }

pub returns : goal.returns
returns c =
    let a = c.args in
    let l = a.limbs.now in
    let s = c.loop-limb in
    let h : a.at ≤ length l = omega arith in
    joined-end l a.at h s.limb-items
    ∙ gone a.negative (joined a.at l s.limb-items) (val l) (W a.at * a.word) (a.at + s.limb-index) s.carry s.invariant.whole s.invariant.fit
    (reach a.at a.word c.requires.1 c.ranges.word.fits) (omega (arith, part-length l a.at h)) (omega (arith, part-length l a.at h)) s.invariant.balance
