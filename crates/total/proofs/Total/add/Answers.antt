-- The parts' limbs are moved; `added` says what that is of the value.
use Rattle.std.proofs.Common.{◌+◌, ◌*◌, ◌^◌, false, subst, arith, rules, Fits, w64, get_or}
use mathlib.Core.Bool.{true}
use lib.Ieee.{Float}
use Rattle.bits.specs.Parts.{PartsOf}
use Rattle.total.specs.Total.{val, complement}
use Rattle.total.proofs.Adding.{added, unadded, held}
use Rattle.total.proofs.Total.add.Goals as goal

pub returns-in_default : goal.returns-in_default
returns-in_default c =
    let a = c.args in
    unadded a.self.limbs a.times a.x (search rules) (λ i. (let z : Fits w64 (get_or c.args.self.limbs i 0) = search rules in z).fits)
    (subst (λ (y : Float). PartsOf y false false 0 0) (grind arith) c.in_default.ensures)

pub returns-in-Some : goal.returns-in-Some
returns-in-Some c =
    let p = c.in-Some.p in
    let a = c.args in
    let t = val a.self.limbs in
    held c.moved.new.limbs (t + complement p.negative (a.times * (p.digits * 2 ^ p.exponent))) _ c.moved.ensures
    (added a.x true p.negative p.digits p.exponent (subst (λ (y : Float). PartsOf y true p.negative p.digits p.exponent) (grind arith) c.in-Some.ensures) t a.times)
