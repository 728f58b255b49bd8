-- `inverse` meets its contract: one law for each way (`Reaching`).
use mathlib.Core.Path.{◌∙◌, ap}
use Prim.Native.Nat.{ℕ, ◌-◌, ◌/◌, ◌^◌}
use native.Mathlib.Nat.{lt_of_lt_of_le}
use native.Mathlib.Omega.{arith}
use lib.Dec.{lit≤}
use Rattle.arctangent.proofs.Reaching.{inverse_near, inverse_far, inverse_out}
use Rattle.arctangent.proofs.argument.inverse.Goals as goal

pub overflow_shl-p : goal.overflow_shl-p
overflow_shl-p c = omega (arith, c.requires)

pub returns-then-p-le1074 : goal.returns-then-p-le1074
returns-then-p-le1074 c =
    c.quotient.ensures ∙ inverse_near c.args.p.digits c.args.p.exponent (c.args.p.leading (lt_of_lt_of_le (lit≤ tt) c.requires)) c.args.p.digits_fit c.requires c.if-p-le1074.true

pub overflow_sub-result : goal.overflow_sub-result
overflow_sub-result c = omega (arith, c.if-p-le1074.false)

pub overflow_shr-result : goal.overflow_shr-result
overflow_shr-result c = omega (arith, c.if-p.true)

pub returns-then-p : goal.returns-then-p
returns-then-p c =
    ap (λ (x : ℕ). x / 2 ^ (c.args.p.exponent - 1074)) c.quotient-then-p.ensures ∙ inverse_far c.args.p.digits c.args.p.exponent (c.args.p.leading (lt_of_lt_of_le (lit≤ tt) c.requires)) c.args.p.digits_fit c.if-p-le1074.false

pub returns : goal.returns
returns c = inverse_out c.args.p.digits c.args.p.exponent (c.args.p.leading (lt_of_lt_of_le (lit≤ tt) c.requires)) c.args.p.digits_fit c.if-p.false
