-- Document 01's corner table, the multiply-add's row, by computing. Assumes nothing.
use Rattle.std.specs.Prelude.{◌≡◌, refl}
use Rattle.std.specs.Float.Ieee.{of_bits}
use Rattle.laws.specs.Arithmetic.{float}
use Rattle.fused.specs.Fused.{fused_of}

-- (1 + 2 ^ -52) * (1 - 2 ^ -52) - 1 = -2 ^ -104
abbrev pub FusedCorner : Type 0
FusedCorner = fused_of (float 0x3ff0_0000_0000_0001) (float 0x3fef_ffff_ffff_fffe) (float 0xbff0_0000_0000_0000) ≡ float 0xb970_0000_0000_0000

pub fused_corner : FusedCorner
unfolding fused_of of_bits
fused_corner = refl
