-- Where ellipeinc and ellipf scale what they ask the recipes for, and by what. RF and RD are homogeneous: with every argument divided by λ = 4^256, which is exact, RF is 2^256 times as large and RD 2^768 times (DLMF 19.20.1 and 19.20.18 with these arguments). Definitions only.
use Rattle.std.specs.Prelude.{Bool, ◌||◌, Float}
use Rattle.laws.specs.Arithmetic.{◌<·◌, float}
use Rattle.whole.specs.Whole.{magnitude_of}

-- 2^200
abbrev pub huge : Float
huge = float 0x4c70_0000_0000_0000

-- 4^256, and its root
abbrev pub λ4 : Float
λ4 = float 0x5ff0_0000_0000_0000

abbrev pub √λ : Float
√λ = float 0x4ff0_0000_0000_0000

-- c = 1 / sin²φ or |m| is above 2^200: the recipes' own products and RD's value may leave the range of f64
unfoldable pub large_of : Float → Float → Bool
large_of m c = huge <· c || huge <· magnitude_of m
