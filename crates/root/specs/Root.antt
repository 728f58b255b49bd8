-- The square root (01, module 1; IEEE 754-2019, 5.4.1): the exact root rounded once, a tie to the even one. Definitions only.
use Rattle.std.specs.Prelude.{ℕ, zero, suc, ◌+◌, ◌-◌, ◌*◌, ◌/◌, ◌^◌, true, false, cond, nat_le, Float}
use Prim.Native.Nat.{compare}
use Rattle.std.specs.Float.{nan, inf, fin, binary64}
use Rattle.std.specs.Float.Ieee.{up, down, size, nearest, units}

-- the largest r with r * r ≤ n, for an n below 4 ^ d: one binary digit of it for two of n's
unfoldable pub root_in : ℕ → ℕ → ℕ
root_in zero n = 0
root_in (suc d) n = let r = 2 * root_in d (n / 4) in cond (nat_le ((r + 1) * (r + 1)) n) (r + 1) r

-- the largest r with r * r ≤ n
unfoldable pub whole_root : ℕ → ℕ
unfolding root_in size
whole_root n = root_in (size n) n

-- The f64 nearest to the root of n, which counts squares of the smallest f64. As in `round` of lib.Ieee the root's whole part keeps 53 digits, q, and drops k, so the result is q or q + 1 times 2 ^ k smallest values.
-- The root lies below, at or above the middle of the two, (2q + 1) / 2 * 2 ^ k, as n * 4 lies below, at or above the square of (2q + 1) * 2 ^ k.
unfoldable pub round_root : ℕ → Float
unfolding whole_root size units
round_root n =
    let k = size (whole_root n) - 53 in
    let q = whole_root n / 2 ^ k in
    let middle = (2 * q + 1) * 2 ^ k in
    units binary64 false (nearest q (compare (n * 4) (middle * middle))) k

-- √x. The root of a negative number is NaN, and a zero keeps its sign. m * up e * 2 ^ 1074 / down e is m * 2 ^ e in units of the smallest f64, exactly.
unfoldable pub root_of : Float → Float
unfolding round_root
root_of nan = nan
root_of (inf true) = nan
root_of (inf false) = inf false
root_of (fin s zero e) = fin s zero e
root_of (fin true (suc m) e) = nan
root_of (fin false (suc m) e) = round_root (suc m * up e * 2 ^ 1074 / down e * 2 ^ 1074)
