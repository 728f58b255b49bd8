-- `of_parts` meets its contract: the test on the exponent is that on 1/4, and each way rounds once (`Reaching`).
use mathlib.Core.Path.{sym, ◌∙◌, subst}
use Rattle.std.proofs.Common.{◌≡◌, arith}
use Prim.Native.Nat.{◌-◌, ◌*◌, ◌/◌, ◌^◌, ◌≤◌, ◌<◌}
use native.Mathlib.Nat.{lt_of_lt_of_le, le_of_lt}
use lib.Dec.{lit≤}
use lib.Pow.{pow_pos}
use Rattle.arctangent.specs.laws.Units.{product_rounded}
use Rattle.arctangent.specs.declared.sums.Sides.{Sides}
use Rattle.arctangent.proofs.Factor.{taken_added}
use Rattle.arctangent.proofs.Sides.{sides_ordered}
use Rattle.arctangent.proofs.Reaching.{fraction_le, quarter-le, below-quarter, is_large, is_small}
use Rattle.arctangent.proofs.of_parts.Goals as goal
use Rattle.arctangent.proofs.of_parts.Goals.{After-fixed, Else-p-ge1020, Then-p-ge1020}

full : (c : Then-p-ge1020) → 2 ^ 52 ≤ c.args.p.digits
full c = c.args.p.leading (lt_of_lt_of_le (lit≤ tt) c.if-p-ge1020.true)

pub sides_of-requires : goal.sides_of-requires
sides_of-requires c = c.if-p-ge1020.true

large : (c : Then-p-ge1020) → 2 ^ 1074 ≤ 4 * (c.args.p.digits * 2 ^ c.args.p.exponent)
large c = quarter-le c.args.p.digits c.args.p.exponent (full c) c.args.p.digits_fit c.if-p-ge1020.true

pub difference-requires : goal.difference-requires
difference-requires c =
    let p = c.args.p in
    subst (λ (z : Sides). z.taken ≤ z.added) (sym c.sides_of.ensures) (sides_ordered (p.digits * 2 ^ p.exponent) (2 ^ 1074) (pow_pos 1074) (large (goal.at.difference-requires c).Then-p-ge1020)).least

pub returns-then-p-ge1020 : goal.returns-then-p-ge1020
returns-then-p-ge1020 c =
    let p = c.args.p in
    is_large p.negative (p.digits * 2 ^ p.exponent) (2 ^ 1074) c.sides_of.result c.difference.result (large (goal.at.returns-then-p-ge1020 c).Then-p-ge1020) c.sides_of.ensures c.difference.ensures

small : (c : Else-p-ge1020) → 4 * (c.args.p.digits * 2 ^ c.args.p.exponent) < 2 ^ 1074
small c = below-quarter c.args.p.digits c.args.p.exponent c.args.p.digits_fit c.if-p-ge1020.false

cut : (c : After-fixed) → c.fixed.result ≡ c.args.p.digits * 2 ^ c.args.p.exponent * 2 ^ 64 / 2 ^ 1074
cut c = grind arith

fraction : (c : After-fixed) → c.fixed.result ≤ 2 ^ 62
fraction c = let p = c.args.p in fraction_le (p.digits * 2 ^ p.exponent) (2 ^ 1074) (le_of_lt (below-quarter p.digits p.exponent p.digits_fit c.if-p-ge1020.false)) (pow_pos 1074) c.fixed.result (cut c)

pub factor-f-requires : goal.factor-f-requires
factor-f-requires c = fraction (goal.at.factor-f-requires c).After-fixed

pub overflow_sub-f : goal.overflow_sub-f
overflow_sub-f c = subst (λ (z : Sides). z.taken ≤ z.added) (sym c.factor-f.ensures) (taken_added c.fixed.result (fraction (goal.at.overflow_sub-f c).After-fixed))

pub returns : goal.returns
returns c =
    let p = c.args.p in
    let g = c.factor-f.result in
    is_small p.negative (p.digits * 2 ^ p.exponent) (2 ^ 1074) c.fixed.result g c.rounded.result (small (goal.at.returns c).Else-p-ge1020) (cut (goal.at.returns c).After-fixed) c.factor-f.ensures
    (c.rounded.ensures ∙ product_rounded p.negative 63 p.digits p.exponent (g.added - g.taken) c.product-v.result (lit≤ tt) c.product-v.ensures)
