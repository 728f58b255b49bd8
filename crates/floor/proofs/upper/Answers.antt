-- `upper` meets its contract.
use mathlib.Core.Path.{sym, ◌∙◌, subst}
use mathlib.Core.Bool.{true, false}
use Prim.Native.Nat.{ℕ, ◌/◌, ◌^◌, ◌<◌}
use native.Mathlib.Nat.{add-zero}
use native.Mathlib.Omega.{arith}
use lib.Dec.{lit≤}
use lib.Pow.{pow_pos}
use Rattle.laws.specs.laws.Flags.{is_some, is_none}
use Rattle.laws.specs.laws.Digits.{one_shl}
use Rattle.floor.proofs.Fractions.{lower_le, upper-far, upper-near, upper-le}
use Rattle.floor.proofs.upper.Goals as goal

pub returns-then-w-gt0 : goal.returns-then-w-gt0
returns-then-w-gt0 c = (upper-far c.args.w c.args.s true c.requires.0 c.if-s-ge64.true (is_some c.args.w c.if-w-gt0.true), lit≤ tt)

pub returns-else-w-gt0 : goal.returns-else-w-gt0
returns-else-w-gt0 c = (upper-far c.args.w c.args.s false c.requires.0 c.if-s-ge64.true (is_none c.args.w c.if-w-gt0.false), lit≤ tt)

pub nonzero_rem-w : goal.nonzero_rem-w
nonzero_rem-w c = let s = c.args.s in subst (λ (x : ℕ). 0 < x) (sym (one_shl s c.if-s-ge64.false)) (pow_pos s)

pub overflow_add-result : goal.overflow_add-result
overflow_add-result c = let u = upper-le c.args.w c.args.s c.requires.0 in omega arith

pub returns-then-w-s-gt0 : goal.returns-then-w-s-gt0
returns-then-w-s-gt0 c = (upper-near c.args.w c.args.s true c.if-s-ge64.false (is_some _ c.if-w-s-gt0.true), upper-le c.args.w c.args.s c.requires.0)

pub returns-else-w-s-gt0 : goal.returns-else-w-s-gt0
returns-else-w-s-gt0 c = (sym (add-zero (c.args.w / 2 ^ c.args.s)) ∙ upper-near c.args.w c.args.s false c.if-s-ge64.false (is_none _ c.if-w-s-gt0.false), lower_le c.args.w c.args.s c.requires.0)
