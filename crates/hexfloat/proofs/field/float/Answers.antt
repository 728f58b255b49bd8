-- No digits, or their number with an exponent or without.
use mathlib.Core.Path.{ap, ◌∙◌}
use Prim.Native.Nat.{ℕ, ◌*◌, ◌^◌}
use lib.ListN.{take}
use lib.Ieee.{binary64, round, to_bits}
use Rattle.std.specs.Prelude.{Some}
use Rattle.hexfloat.specs.Reading.{scaled_by, mantissa_of}
use Rattle.hexfloat.specs.laws.Holding.{some_number, no_number}
use Rattle.hexfloat.specs.laws.Sizes.{mantissa_lt}
use Rattle.hexfloat.proofs.Exponents.{pattern_down}
use Rattle.hexfloat.proofs.Mantissas.{float-none, float_power, float_plain}
use Rattle.hexfloat.proofs.field.float.Goals as goal

pub returns-in_err-m : goal.returns-in_err-m
returns-in_err-m c =
    let a = c.args in
    c.from_residual.ensures ∙ float-none a.negative a.s.now _ c.find-size.ensures.0 (no_number _ (rw c.front.ensures at c.in_err-m.ensures.leads))

pub returns-then-size-s : goal.returns-then-size-s
returns-then-size-s c =
    let a = c.args in
    let m = c.in_ok-m in
    let size = c.find-size.result in
    let k = rw c.front.ensures at m.ensures.behind_value.0 in
    some_number (mantissa_of (take size a.s.now)) _ (rw c.front.ensures at m.ensures.leads) _ λ n e H.
    float_power a.negative a.s.now size c.find-size.ensures.0 n e _ c.if-size-s.true
    (c.with_exponent.ensures n H (mantissa_lt _ n e) ∙ (λ i. scaled_by a.negative n (k i) (c.after.ensures i)))

pub returns : goal.returns
returns c =
    let a = c.args in
    let m = c.in_ok-m in
    let size = c.find-size.result in
    let k = rw c.front.ensures at m.ensures.behind_value.0 in
    some_number (mantissa_of (take size a.s.now)) _ (rw c.front.ensures at m.ensures.leads) _ λ n e H.
    float_plain a.negative a.s.now size c.find-size.ensures.0 n e _ c.if-size-s.false
    (pattern_down a.negative n _ H (mantissa_lt _ n e) _ _ c.to_pattern.ensures _ c.scaled.ensures
    ∙ ap (λ (b : ℕ). Some (to_bits binary64 (round binary64 a.negative n (2 ^ (4 * b))))) k)
