-- `shifted` meets its contract: nothing of a number is left from its 128th digit on.
use Rattle.std.proofs.Common.{◌^◌, ◌<◌, sym, ap, lt_of_lt_of_le, mod-eq_of_lt, ltb, pow_mono}
use native.Mathlib.Nat.{div-eq_of_lt}
use Rattle.fused.proofs.shifted.Goals as goal

pub returns-else-n-lt128 : goal.returns-else-n-lt128
returns-else-n-lt128 c =
    let x : c.args.digits < 2 ^ c.args.n = lt_of_lt_of_le c.ranges.digits.fits (pow_mono c.if-n-lt128.false) in
    record { whole = sym (div-eq_of_lt x); rest = ap (ltb 0) (mod-eq_of_lt x) }
