-- `from_pattern` meets its contract: without its sign a NaN's pattern is above the infinity's.
use Rattle.std.proofs.Common.{◌≡◌, ℕ, ◌%◌, ◌^◌, ◌<◌, true, ltb, sym, ◌∙◌, lt→ltb}
use mathlib.Core.Bool.{false≢true}
use lib.Arith.{le→nltb}
use lib.Ieee.{Float, nan, inf, fin, binary64, is_nan, of_bits, div}
use lib.Ieee.Bits.{nan_bits_is, nan_bits_above, is_true, is_false}
use Rattle.laws.specs.laws.Flags.{fails}
use Rattle.bits.proofs.pattern.from_pattern.Goals as goal

a-nan : (x : Float) → is_nan x ≡ true → nan ≡ x
unfolding is_nan
a-nan nan e = λ i. nan
a-nan (inf s) e = absurd (false≢true e)
a-nan (fin s m d) e = absurd (false≢true e)

above : (b : ℕ) → 0x7ff0_0000_0000_0000 < b % 2 ^ 63 → is_nan (of_bits binary64 b) ≡ true
above b h = sym (nan_bits_is binary64 b) ∙ nan_bits_above binary64 b ∙ is_true (ltb 0x7ff0_0000_0000_0000 (b % 2 ^ 63)) (lt→ltb 0x7ff0_0000_0000_0000 (b % 2 ^ 63) h)

pub returns-then-pattern-gt9218868437227405312 : goal.returns-then-pattern-gt9218868437227405312
unfolding div of_bits
returns-then-pattern-gt9218868437227405312 c = a-nan (of_bits binary64 c.args.pattern) (above c.args.pattern c.if-pattern-gt9218868437227405312.true)

pub float_from_bits-result : goal.float_from_bits-result
float_from_bits-result c =
    let b = c.args.pattern in
    fails (nan_bits_above binary64 b ∙ is_false (ltb 0x7ff0_0000_0000_0000 (b % 2 ^ 63)) (le→nltb 0x7ff0_0000_0000_0000 (b % 2 ^ 63) c.if-pattern-gt9218868437227405312.false))
