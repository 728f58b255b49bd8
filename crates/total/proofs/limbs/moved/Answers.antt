-- Three words at their places are the product at its place.
use Rattle.std.proofs.Common.{◌≡◌, ◌+◌, ◌*◌, ◌/◌, ◌%◌, ◌^◌, length, get_or, arith}
use Rattle.total.specs.Total.{val}
use Rattle.total.specs.Carry.{W}
use Rattle.total.proofs.Carrying.{three, placed, small}
use Rattle.total.proofs.limbs.moved.Goals as goal

pub returns : goal.returns
returns c =
    let w = c.spread.result in
    let first = c.ripple in
    let second = c.ripple-2 in
    let third = c.ripple-3 in
    let p = c.args.parts in
    let d = p.digits in
    let e = p.exponent in
    let k = c.args.times in
    let at = e / 64 in
    let split : 64 * at + e % 64 ≡ e = omega arith in
    let three_words : length w ≡ 3 = omega arith in
    three c.args.negative (val c.args.limbs.now) (W at * get_or w 0 0) (W (at + 1) * get_or w 1 0) (W (at + 2) * get_or w 2 0) (k * (d * 2 ^ e))
    first.new.limbs second.new.limbs third.new.limbs (placed at (e % 64) e k d w three_words split c.spread.ensures) (small k d e c.ranges.times.fits p.digits_fit p.exponent_fits)
    first.ensures second.ensures third.ensures
