-- `lifted` meets its contract (`Places`).
use mathlib.Core.Path.{refl}
use Prim.Native.Nat.{◌≤◌}
use native.Mathlib.Omega.{arith}
use lib.Count.{count_leading_zeros}
use Rattle.fused.proofs.Places.{shift_bound, is_lifted}
use Rattle.fused.proofs.lifted.Goals as goal
use Rattle.fused.proofs.lifted.Goals.{Start}

zeros : (c : Start) → (11 ≤ count_leading_zeros 64 c.args.p.digits) × (count_leading_zeros 64 c.args.p.digits ≤ 64)
zeros c = shift_bound c.args.p.digits c.args.p.digits_fit

pub overflow_cast-shift : goal.overflow_cast-shift
overflow_cast-shift c = omega (arith, zeros (goal.at.overflow_cast-shift c).Start)

pub overflow_sub-shift : goal.overflow_sub-shift
overflow_sub-shift c = omega (arith, zeros (goal.at.overflow_sub-shift c).Start)

pub overflow_shl-result : goal.overflow_shl-result
overflow_shl-result c = omega (arith, zeros (goal.at.overflow_shl-result c).Start)

pub overflow_sub-result : goal.overflow_sub-result
overflow_sub-result c = omega (arith, zeros (goal.at.overflow_sub-result c).Start)

pub returns : goal.returns
returns c = is_lifted c.args.p.digits c.args.p.exponent c.args.p.digits_fit _ refl
