-- What the recipes share. Definitions only.
use Rattle.std.specs.Prelude.{cond, Float}
use Rattle.std.specs.Float.{nan}
use Rattle.laws.specs.Arithmetic.{◌⊕◌, ◌⊖◌, ◌⊗◌, ◌⊘◌, ◌<·◌, float, 1·0, 3·0, 6·0, 9·0, 14·0, 22·0, 26·0, 52·0, 88·0}

-- the larger of two distances
unfoldable pub larger_of : Float → Float → Float
larger_of a b = cond (a <· b) b a

-- the closing series of RD and RJ, of fifth order (DLMF 19.36.2)
unfoldable pub fifth_of : Float → Float → Float → Float → Float
fifth_of e2 e3 e4 e5 =
    1·0 ⊖ 3·0 ⊗ e2 ⊘ 14·0 ⊕ e3 ⊘ 6·0 ⊕ 9·0 ⊗ e2 ⊗ e2 ⊘ 88·0 ⊖ 3·0 ⊗ e4 ⊘ 22·0 ⊖ 9·0 ⊗ e2 ⊗ e3 ⊘ 52·0 ⊕ 3·0 ⊗ e5 ⊘ 26·0

-- 2^-960: a term of RD or RJ that is lost, since its divisor is too large for an f64, is below 2^-1023
abbrev pub least : Float
least = float 0x03f0_0000_0000_0000

-- so a value from there on has not felt such a loss; below, it is no answer
unfoldable pub trusted_of : Float → Float
trusted_of v = cond (v <· least) nan v
