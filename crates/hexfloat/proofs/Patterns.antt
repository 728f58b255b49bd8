-- A NaN's pattern in 16 digits. Assumes nothing.
use mathlib.Core.Path.{◌≡◌, refl, sym, ◌∙◌}
use Prim.Native.Nat.{ℕ}
use mathlib.Core.Bool.{true, false}
use mathlib.Core.List.{List}
use lib.Ieee.{binary64, of_bits, ne}
use lib.Ieee.Bits.{nan_bits_is}
use Rattle.laws.specs.laws.Kinds.{differs_is}
use Rattle.std.specs.Prelude.{Some, None}
use Rattle.line.specs.Line.{pattern_of}
use Rattle.hexfloat.specs.Reading.{given, nan_of}

module _ (s : List ℕ) where
  pub nan-none : None ≡ pattern_of s → None ≡ nan_of s
  unfolding nan_of given
  nan-none e = rw (← e) refl

  module _ (p : ℕ) (e : Some p ≡ pattern_of s) where
    pub nan-read : ne (of_bits binary64 p) (of_bits binary64 p) ≡ true → Some p ≡ nan_of s
    unfolding nan_of given
    nan-read d = rw (← e, nan_bits_is binary64 p ∙ sym (differs_is (of_bits binary64 p)) ∙ d) refl

    pub no_nan : ne (of_bits binary64 p) (of_bits binary64 p) ≡ false → None ≡ nan_of s
    unfolding nan_of given
    no_nan d = rw (← e, nan_bits_is binary64 p ∙ sym (differs_is (of_bits binary64 p)) ∙ d) refl
