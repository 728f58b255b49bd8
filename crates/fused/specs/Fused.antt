-- The fused multiply-add (01, module 1; IEEE 754-2019, 5.4.1): x * y + z exactly, rounded once. Definitions only.
use Rattle.std.specs.Prelude.{◌*◌, Float}
use Rattle.std.specs.Float.{nan, inf, fin, binary64}
use Rattle.std.specs.Float.Ieee.{up, down, unlike, sum, add, mul}

-- `sum` is the exact sum of two signed fractions, rounded once. Where x or y is no finite number `mul` rounds nothing, and where only z is none it is the result.
unfoldable pub fused_of : Float → Float → Float → Float
unfolding sum add mul
fused_of nan y z = nan
fused_of (inf s) y z = add binary64 (mul binary64 (inf s) y) z
fused_of (fin s m e) nan z = nan
fused_of (fin s m e) (inf t) z = add binary64 (mul binary64 (fin s m e) (inf t)) z
fused_of (fin s m e) (fin t n d) nan = nan
fused_of (fin s m e) (fin t n d) (inf u) = inf u
fused_of (fin s m e) (fin t n d) (fin u k g) =
    sum binary64 (unlike s t) (m * up e * (n * up d) * down g) u (k * up g * (down e * down d)) (down e * down d * down g)
