-- Document 01's corner table, the row of rounding, by computing. Assumes nothing.
use Rattle.std.specs.Prelude.{◌≡◌, refl}
use Rattle.std.specs.Float.Ieee.{of_bits, round}
use Rattle.laws.specs.Arithmetic.{float}
use Rattle.whole.specs.Whole.{round_of}

-- 2.5 rounds to 3, and -2.5 to -3
abbrev pub WholeCorners : Type 0
WholeCorners = (round_of (float 0x4004_0000_0000_0000) ≡ float 0x4008_0000_0000_0000) × (round_of (float 0xc004_0000_0000_0000) ≡ float 0xc008_0000_0000_0000)

pub whole_corners : WholeCorners
unfolding round_of of_bits round
whole_corners = (refl, refl)
