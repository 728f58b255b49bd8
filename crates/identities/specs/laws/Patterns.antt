-- Patterns and values are one to one, but for the NaN patterns, which all are the one NaN. Assumes nothing.
use Rattle.std.specs.Prelude.{◌≡◌, refl, true, false, ℕ, ◌^◌, ◌<◌, Float}
use Rattle.std.proofs.Common.{sym, ◌∙◌}
use Rattle.std.proofs.lemmas.Bool.{false≢true}
use Rattle.std.specs.Float.{nan, inf, fin, binary64}
use Rattle.std.specs.Float.Ieee.{is_nan, nan_bits, of_bits, to_bits}
use Rattle.std.specs.Float.Ieee.Bits.{to_bits-of_bits, nan_bits_is}
use Rattle.laws.specs.laws.Flags.{fails}

-- a pattern that is no NaN's comes back
pub pattern_back : (b : ℕ) → b < 2 ^ 64 → nan_bits binary64 b ≡ false → to_bits binary64 (of_bits binary64 b) ≡ b
pattern_back b h e = to_bits-of_bits binary64 b h (fails (sym (nan_bits_is binary64 b) ∙ e))

-- a NaN pattern comes back as 7ff8000000000000
pub pattern-nan : (b : ℕ) → nan_bits binary64 b ≡ true → to_bits binary64 (of_bits binary64 b) ≡ 0x7ff8_0000_0000_0000
unfolding is_nan to_bits
pattern-nan b e = go (of_bits binary64 b) (sym (nan_bits_is binary64 b) ∙ e)
  where
    go : (x : Float) → is_nan x ≡ true → to_bits binary64 x ≡ 0x7ff8_0000_0000_0000
    go nan e = refl
    go (inf s) e = absurd (false≢true e)
    go (fin s m d) e = absurd (false≢true e)
