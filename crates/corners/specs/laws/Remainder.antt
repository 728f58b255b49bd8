-- The remainder at corners, as one fact. Each row is computed. Assumes nothing.
use Rattle.std.specs.Prelude.{◌≡◌, refl}
use Rattle.std.specs.Float.{nan}
use Rattle.std.specs.Float.Ieee.{of_bits}
use Rattle.laws.specs.Arithmetic.{float, +0, +∞, 1·0, 2·0}
use Rattle.corners.specs.Most.{most}
use Rattle.remainder.specs.Remainder.{units_of, remainder_of}

-- -7.5 by 2 is -1.5, and -4 by 2 is -0; the largest f64 is a whole number of the smallest; 1 by ∞ is 1; ∞ by 1 and 1 by 0 are NaN
abbrev pub RemainderCorners : Type 0
RemainderCorners =
    (remainder_of (float 0xc01e_0000_0000_0000) 2·0 ≡ float 0xbff8_0000_0000_0000)
    × (remainder_of (float 0xc010_0000_0000_0000) 2·0 ≡ float 0x8000_0000_0000_0000)
    × (remainder_of most (float 1) ≡ +0)
    × (remainder_of 1·0 +∞ ≡ 1·0)
    × (remainder_of +∞ 1·0 ≡ nan)
    × (remainder_of 1·0 +0 ≡ nan)

pub remainder_corners : RemainderCorners
unfolding remainder_of units_of of_bits
remainder_corners = (refl, refl, refl, refl, refl, refl)
