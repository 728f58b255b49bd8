-- Which piece m falls in (01, "ellipke"; the `match` of ellipk.rs, ellipe.rs and ellipke.rs), and K and E there. Definitions only.
use Rattle.std.specs.Prelude.{ℕ, ◌-◌, ◌/◌, ◌&&◌, Option, Some, None, option_map, List, [], ◌∷◌, nat_lt, slice_index_or, Float}
use Rattle.std.specs.Float.Ieee.{neg, to_unsigned}
use Rattle.laws.specs.Arithmetic.{◌⊗◌, ◌<·◌, float, dec, +0, 1·0, 20·0}
use Rattle.laws.specs.Ladder.{when◌gives◌else◌}
use Rattle.pieces.specs.Coeffs.{k_rows, e_rows}
use Rattle.pieces.specs.Polyeval.{polyeval_of}

abbrev pub 18·0 : Float
18·0 = float 0x4032_0000_0000_0000

-- the f64 product 20·m, rounded, is truncated, where that is one of 0 to 17
unfoldable pub truncated_of : Float → Option ℕ
truncated_of m =
    let t = m ⊗ 20·0 in
    when neg 1·0 <· t && t <· 18·0 gives Some (to_unsigned 64 t) else None

-- 0-1, 2-3, .., 14-15, 16 and 17 pick a row each
unfoldable pub row_of : ℕ → ℕ
row_of k = when nat_lt k 16 gives k / 2 else k - 8

unfoldable pub piece_of : Float → Option ℕ
piece_of m = option_map row_of (truncated_of m)

-- 0.05, 0.15, .., 0.75, 0.825 and 0.875; 0 where there is no piece
abbrev pub centres : List Float
centres = dec 5 2 ∷ dec 15 2 ∷ dec 25 2 ∷ dec 35 2 ∷ dec 45 2 ∷ dec 55 2 ∷ dec 65 2 ∷ dec 75 2 ∷ dec 825 3 ∷ dec 875 3 ∷ []

unfoldable pub centre_of : ℕ → Float
centre_of i = slice_index_or centres i +0

-- K and E on piece i, at a distance from its centre; 0 where there is no piece, which has no coefficients
unfoldable pub k_piece_of : ℕ → Float → Float
k_piece_of i delta = polyeval_of delta (slice_index_or k_rows i [])

unfoldable pub e_piece_of : ℕ → Float → Float
e_piece_of i delta = polyeval_of delta (slice_index_or e_rows i [])
