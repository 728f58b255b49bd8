-- The turned digits are N - 1 less the number.
use Rattle.std.proofs.Common.{◌≡◌, ◌-◌, ◌<◌, ◌∙◌, get_or, ap, arith, rules}
use Rattle.total.specs.Total.{val}
use Rattle.total.specs.Carry.{W}
use Rattle.total.specs.laws.Limbs.{W-34}
use Rattle.total.proofs.FirstLimbs.{turned, turned_none, turned_more}
use Rattle.total.proofs.TopLimbs.{less_from_turned}
use Rattle.total.proofs.rounding.negate.Goals as goal

pub loop-limb-init : goal.loop-limb-init
loop-limb-init c = turned_none c.args.limbs.now

pub loop-limb-preserved : goal.loop-limb-preserved
loop-limb-preserved c =
    let l = c.args.limbs.now in
    let s = c.loop-limb in
    let x = get_or s.limbs s.limb-index 0 in
    let same : x ≡ get_or l s.limb-index 0 = s.invariant.left s.limb-index (omega arith) in
    let f : x < 0x1_0000_0000_0000_0000 = search rules in
    turned_more l s.limbs s.limb-index (0xffff_ffff_ffff_ffff - x) (omega arith) (omega arith) s.invariant

pub returns : goal.returns
returns c =
    let l = c.args.limbs.now in
    let s = c.loop-limb in
    less_from_turned (val s.limbs) (val l) _ (turned l s.limbs s.invariant.long (λ k h. s.invariant.done k (omega arith)) ∙ ap W c.requires ∙ W-34) c.ripple.ensures
