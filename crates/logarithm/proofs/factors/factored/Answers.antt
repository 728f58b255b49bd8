-- `factored` meets its contract: the digits moved up to 53 places give f or twice f (`Factoring`).
use Prim.Native.Nat.{ℕ, ◌+◌, ◌-◌, ◌≤◌, ◌<◌}
use native.Mathlib.Omega.{arith}
use lib.Count.{count_leading_zeros}
use Rattle.logarithm.proofs.Factoring.{zeros_bounds, factored_low, factored_high}
use Rattle.logarithm.proofs.factors.factored.Goals as goal
use Rattle.logarithm.proofs.factors.factored.Goals.{Start}

zeros : (c : Start) → (11 ≤ count_leading_zeros 64 c.args.p.digits) × (count_leading_zeros 64 c.args.p.digits < 64)
zeros c = zeros_bounds c.args.p.digits c.args.p.exponent c.requires c.args.p.digits_fit

pub overflow_cast-zeros : goal.overflow_cast-zeros
overflow_cast-zeros c = omega (arith, (zeros (goal.at.overflow_cast-zeros c).Start).1)

pub overflow_sub-zeros : goal.overflow_sub-zeros
overflow_sub-zeros c = (zeros (goal.at.overflow_sub-zeros c).Start).0

pub overflow_shl-lead : goal.overflow_shl-lead
overflow_shl-lead c = omega (arith, (zeros (goal.at.overflow_shl-lead c).Start).1)

pub overflow_sub-w : goal.overflow_sub-w
overflow_sub-w c = omega (arith, (zeros (goal.at.overflow_sub-w c).Start).1)

one-at-least : (e l : ℕ) → l < 64 → 1 ≤ e + 53 - (l - 11)
one-at-least e l h = omega arith

pub overflow_sub-w-then-lead-lt6755399441055744 : goal.overflow_sub-w-then-lead-lt6755399441055744
overflow_sub-w-then-lead-lt6755399441055744 c = one-at-least c.args.p.exponent (count_leading_zeros 64 c.args.p.digits) (zeros (goal.at.overflow_sub-w-then-lead-lt6755399441055744 c).Start).1

pub overflow_sub-w-then-lead-lt6755399441055744-2 : goal.overflow_sub-w-then-lead-lt6755399441055744-2
overflow_sub-w-then-lead-lt6755399441055744-2 c = one-at-least c.args.p.exponent (count_leading_zeros 64 c.args.p.digits) (zeros (goal.at.overflow_sub-w-then-lead-lt6755399441055744-2 c).Start).1

pub returns-then-lead-lt6755399441055744 : goal.returns-then-lead-lt6755399441055744
returns-then-lead-lt6755399441055744 c =
    factored_low c.args.p.digits c.args.p.exponent c.requires c.args.p.digits_fit _ _ c.if-lead-lt6755399441055744.true c.saturating_sub.ensures c.saturating_sub-then-lead-lt6755399441055744.ensures

pub returns : goal.returns
returns c =
    factored_high c.args.p.digits c.args.p.exponent c.requires c.args.p.digits_fit _ _ c.if-lead-lt6755399441055744.false c.saturating_sub-2.ensures c.saturating_sub-3.ensures
