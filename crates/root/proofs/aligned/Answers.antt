-- `aligned` meets its contract, with 53 digits and with fewer (`Trials`).
use Rattle.std.proofs.Common.{◌+◌, ◌<◌, ◌≤◌, refl, arith}
use lib.Bits.{bit_and, mask_lt}
use lib.Count.{count_leading_zeros}
use Rattle.root.proofs.Trials.{zeros_bound, full_aligned, is_aligned}
use Rattle.root.proofs.aligned.Goals as goal
use Rattle.root.proofs.aligned.Goals.{Start}

pub overflow_add-result : goal.overflow_add-result
overflow_add-result c = omega (arith, mask_lt c.args.p.exponent 1)

pub overflow_shl-result : goal.overflow_shl-result
overflow_shl-result c = omega (arith, mask_lt c.args.p.exponent 1)

pub returns-then-p-ge4503599627370496 : goal.returns-then-p-ge4503599627370496
returns-then-p-ge4503599627370496 c = full_aligned c.args.p.digits c.args.p.exponent c.if-p-ge4503599627370496.true c.args.p.digits_fit c.args.p.exponent_fits

zeros : (c : Start) → (11 ≤ count_leading_zeros 64 c.args.p.digits) × (count_leading_zeros 64 c.args.p.digits ≤ 63) × (bit_and (c.args.p.exponent + count_leading_zeros 64 c.args.p.digits) 1 < 2)
zeros c = let z = zeros_bound c.args.p.digits c.requires c.args.p.digits_fit in (z.0, z.1, mask_lt (c.args.p.exponent + count_leading_zeros 64 c.args.p.digits) 1)

pub overflow_cast-zeros : goal.overflow_cast-zeros
overflow_cast-zeros c = omega (arith, zeros (goal.at.overflow_cast-zeros c).Start)

pub overflow_sub-shift : goal.overflow_sub-shift
overflow_sub-shift c = omega (arith, zeros (goal.at.overflow_sub-shift c).Start)

pub overflow_add-shift : goal.overflow_add-shift
overflow_add-shift c = omega (arith, zeros (goal.at.overflow_add-shift c).Start)

pub overflow_sub-shift-2 : goal.overflow_sub-shift-2
overflow_sub-shift-2 c = omega (arith, zeros (goal.at.overflow_sub-shift-2 c).Start)

pub overflow_shl-result-2 : goal.overflow_shl-result-2
overflow_shl-result-2 c = omega (arith, zeros (goal.at.overflow_shl-result-2 c).Start)

pub overflow_sub-result-2 : goal.overflow_sub-result-2
overflow_sub-result-2 c = omega (arith, zeros (goal.at.overflow_sub-result-2 c).Start)

pub returns : goal.returns
returns c = is_aligned c.args.p.digits c.args.p.exponent c.requires c.args.p.digits_fit c.args.p.exponent_fits (count_leading_zeros 64 c.args.p.digits) _ refl refl

pub invariant_of-result-2 : goal.invariant_of-result-2
invariant_of-result-2 c =
    let p = c.args.p in
    let z = (is_aligned p.digits p.exponent c.requires p.digits_fit p.exponent_fits (count_leading_zeros 64 p.digits) _ refl refl).sized in
    record { least = z.least; most = z.most; scale = z.scale }
