-- No digit, too many, or those before the point and those behind it.
use mathlib.Core.Path.{◌≡◌, sym}
use Prim.Native.Nat.{◌+◌, ◌≤◌}
use native.Mathlib.Omega.{arith}
use lib.ListN.{length, take}
use Rattle.std.specs.Prelude.{Some}
use Rattle.hexfloat.specs.Steps.{no_digits, held_from, Leads}
use Rattle.hexfloat.specs.laws.Holding.{dropped-most}
use Rattle.hexfloat.specs.laws.Sizes.{at_most}
use Rattle.hexfloat.proofs.Mantissas.{front_length, no_mantissa, mantissa_leads, behind_is}
use Rattle.hexfloat.proofs.field.digits_of.Goals as goal

pub returns-then-count-clause-leads : goal.returns-then-count-clause-leads
unfolding Leads
returns-then-count-clause-leads c =
    let p = c.find-place.ensures in
    rw (no_mantissa c.args.s.now _ p.0 p.1 _ c.after-behind.ensures c.if-count.true) tt

pub returns-in_err-before-clause-leads : goal.returns-in_err-before-clause-leads
returns-in_err-before-clause-leads c =
    let p = c.find-place.ensures in
    let e = sym (rw (c.no_digits.ensures, c.front.ensures) at c.in_err-before.ensures) in
    rw c.from_residual.ensures (rw e at (mantissa_leads c.args.s.now _ p.0 p.1 _ c.after-behind.ensures c.if-count.false))

pub take_digits-requires-2 : goal.take_digits-requires-2
take_digits-requires-2 c =
    let s = c.args.s.now in
    let p = c.find-place.ensures in
    let k : c.find-place.result + length c.after-behind.result.now ≤ 40 = at_most 40 _ c.if-count.false in
    let m = dropped-most no_digits (take c.find-place.result s) _ (sym (rw (c.no_digits.ensures, c.front.ensures) at c.in_ok-before.ensures)) in
    let l = front_length s _ p.0 p.1 _ c.after-behind.ensures in
    omega arith

pub returns-in_err-held-clause-leads : goal.returns-in_err-held-clause-leads
returns-in_err-held-clause-leads c =
    let p = c.find-place.ensures in
    let e : held_from no_digits (take c.find-place.result c.args.s.now) ≡ Some c.in_ok-before.before = sym (rw (c.no_digits.ensures, c.front.ensures) at c.in_ok-before.ensures) in
    rw (c.from_residual-in_err-held.ensures, c.in_err-held.ensures) (rw e at (mantissa_leads c.args.s.now _ p.0 p.1 _ c.after-behind.ensures c.if-count.false))

pub returns-clause-leads : goal.returns-clause-leads
returns-clause-leads c =
    let p = c.find-place.ensures in
    let e : held_from no_digits (take c.find-place.result c.args.s.now) ≡ Some c.in_ok-before.before = sym (rw (c.no_digits.ensures, c.front.ensures) at c.in_ok-before.ensures) in
    rw c.in_ok-held.ensures (rw e at (mantissa_leads c.args.s.now _ p.0 p.1 _ c.after-behind.ensures c.if-count.false))

pub returns-clause-behind_value : goal.returns-clause-behind_value
returns-clause-behind_value c =
    let s = c.args.s.now in
    let p = c.find-place.ensures in
    let a = c.after-behind in
    let k : c.find-place.result + length a.result.now ≤ 40 = at_most 40 _ c.if-count.false in
    let e : held_from no_digits (take c.find-place.result s) ≡ Some c.in_ok-before.before = sym (rw (c.no_digits.ensures, c.front.ensures) at c.in_ok-before.ensures) in
    let m = dropped-most no_digits (take c.find-place.result s) _ e in
    let n = dropped-most c.in_ok-before.before a.result.now _ (sym c.in_ok-held.ensures) in
    let l = front_length s _ p.0 p.1 _ a.ensures in
    (behind_is s _ p.0 p.1 _ a.ensures, omega arith, omega arith)
