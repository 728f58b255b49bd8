-- Document 01's corner table, the root's row, by computing. Assumes nothing.
use Rattle.std.specs.Prelude.{◌≡◌, refl}
use Rattle.std.specs.Float.Ieee.{of_bits}
use Rattle.laws.specs.Arithmetic.{float}
use Rattle.root.specs.Root.{root_of}

-- √2; √(2 ^ -1074) = 2 ^ -537; √-0 = -0
abbrev pub RootCorners : Type 0
RootCorners =
    (root_of (float 0x4000_0000_0000_0000) ≡ float 0x3ff6_a09e_667f_3bcd)
    × (root_of (float 1) ≡ float 0x1e60_0000_0000_0000)
    × (root_of (float 0x8000_0000_0000_0000) ≡ float 0x8000_0000_0000_0000)

pub root_corners : RootCorners
unfolding root_of of_bits
root_corners = (refl, refl, refl)
