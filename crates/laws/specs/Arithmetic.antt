-- Arithmetic of f64 as it is written in the source: each sign is one operation of IEEE 754, rounded once (lib.Ieee). Definitions only.
use Rattle.std.specs.Prelude.{ℕ, ◌^◌, Bool, false, Float}
use Rattle.std.specs.Float.{binary64}
use Rattle.std.specs.Float.Ieee.{add, sub, mul, div, rem, lt, le, eq, ne, of_bits, round}

infixl 65 ◌⊕◌ ◌⊖◌
infixl 70 ◌⊗◌ ◌⊘◌ ◌%%◌
infix 50 ◌<·◌ ◌≤·◌ ◌=·◌ ◌≠·◌
abbrev pub ◌⊕◌ : Float → Float → Float
x ⊕ y = add binary64 x y

abbrev pub ◌⊖◌ : Float → Float → Float
x ⊖ y = sub binary64 x y

abbrev pub ◌⊗◌ : Float → Float → Float
x ⊗ y = mul binary64 x y

abbrev pub ◌⊘◌ : Float → Float → Float
x ⊘ y = div binary64 x y

-- the source's `%`: exact, with x's sign
abbrev pub ◌%%◌ : Float → Float → Float
x %% y = rem binary64 x y

abbrev pub ◌<·◌ : Float → Float → Bool
x <· y = lt x y

abbrev pub ◌≤·◌ : Float → Float → Bool
x ≤· y = le x y

abbrev pub ◌=·◌ : Float → Float → Bool
x =· y = eq x y

abbrev pub ◌≠·◌ : Float → Float → Bool
x ≠· y = ne x y

-- the float of a bit pattern
abbrev pub float : ℕ → Float
float n = of_bits binary64 n

-- the f64 nearest to n / 10 ^ k: the source's decimals
unfoldable pub dec : ℕ → ℕ → Float
unfolding round
dec n k = round binary64 false n (10 ^ k)

-- ---- constants, by their patterns

abbrev pub +0 : Float
+0 = float 0

abbrev pub +∞ : Float
+∞ = float 0x7ff0_0000_0000_0000

abbrev pub -∞ : Float
-∞ = float 0xfff0_0000_0000_0000

abbrev pub π : Float
π = float 0x4009_21fb_5444_2d18

abbrev pub π/2 : Float
π/2 = float 0x3ff9_21fb_5444_2d18

-- 2^-52, the Rust's EPSILON
abbrev pub ε : Float
ε = float 0x3cb0_0000_0000_0000

abbrev pub ½ : Float
½ = float 0x3fe0_0000_0000_0000

abbrev pub 1·0 : Float
1·0 = float 0x3ff0_0000_0000_0000

abbrev pub 2·0 : Float
2·0 = float 0x4000_0000_0000_0000

abbrev pub 3·0 : Float
3·0 = float 0x4008_0000_0000_0000

abbrev pub 4·0 : Float
4·0 = float 0x4010_0000_0000_0000

abbrev pub 5·0 : Float
5·0 = float 0x4014_0000_0000_0000

abbrev pub 6·0 : Float
6·0 = float 0x4018_0000_0000_0000

abbrev pub 7·0 : Float
7·0 = float 0x401c_0000_0000_0000

abbrev pub 8·0 : Float
8·0 = float 0x4020_0000_0000_0000

abbrev pub 9·0 : Float
9·0 = float 0x4022_0000_0000_0000

abbrev pub 10·0 : Float
10·0 = float 0x4024_0000_0000_0000

abbrev pub 14·0 : Float
14·0 = float 0x402c_0000_0000_0000

abbrev pub 20·0 : Float
20·0 = float 0x4034_0000_0000_0000

abbrev pub 22·0 : Float
22·0 = float 0x4036_0000_0000_0000

abbrev pub 24·0 : Float
24·0 = float 0x4038_0000_0000_0000

abbrev pub 26·0 : Float
26·0 = float 0x403a_0000_0000_0000

abbrev pub 44·0 : Float
44·0 = float 0x4046_0000_0000_0000

abbrev pub 52·0 : Float
52·0 = float 0x404a_0000_0000_0000

abbrev pub 88·0 : Float
88·0 = float 0x4056_0000_0000_0000

abbrev pub 128·0 : Float
128·0 = float 0x4060_0000_0000_0000

abbrev pub 159·0 : Float
159·0 = float 0x4063_e000_0000_0000

abbrev pub 208·0 : Float
208·0 = float 0x406a_0000_0000_0000

abbrev pub 512·0 : Float
512·0 = float 0x4080_0000_0000_0000

abbrev pub 1024·0 : Float
1024·0 = float 0x4090_0000_0000_0000
