-- ellipke.rs: K(m) and E(m) together, operation by operation (01, "ellipke"). Definitions only.
use Rattle.std.specs.Prelude.{ℕ, Float, Result, Ok}
use Rattle.laws.specs.Arithmetic.{◌⊖◌, ◌⊗◌, ◌⊘◌, ◌≤·◌, dec, +0, +∞, 1·0}
use Rattle.laws.specs.Ladder.{when◌gives◌else◌}
use Rattle.root.specs.Root.{root_of}
use Rattle.answer.specs.declared.Answer.{Answer}
use Rattle.answer.specs.declared.Refusal.{Refusal}
use Rattle.answer.specs.declared.Answer.TheVariants.{Pair}
use Rattle.legendre.specs.Domain.{by_domain, below_one_of}
use Rattle.pieces.specs.Piece.{k_piece_of, e_piece_of}
use Rattle.legendre.specs.Ellipk.{k_from_of}
use Rattle.legendre.specs.Ellipe.{√ε, last_sums_of, near_one_of, e_from_of}
use Rattle.legendre.specs.declared.ke.Both.{Both}

-- the mean of 1 and y0 = √(1-m): at most 32 steps, stops when |x - y| < 2^-26·|x|
unfoldable pub both_mean_of : Float → Both
both_mean_of y0 =
    let s = last_sums_of 32 √ε y0 in
    record { k = k_from_of s.x s.y; e = when y0 ≤· √ε gives near_one_of y0 else e_from_of s }

unfoldable pub both_piece_of : ℕ → Float → Both
both_piece_of i delta = record { k = k_piece_of i delta; e = e_piece_of i delta }

unfoldable pub both_below_one_of : Float → Both
both_below_one_of m = below_one_of both_piece_of both_mean_of m

unfoldable pub scaled_of : Float → Both → Both
scaled_of c b = record { k = b.k ⊘ c; e = c ⊗ b.e }

-- m < 0, by c = √(1-m) and m1 = m/(m-1)
unfoldable pub both_negative_of : Float → Float → Both
both_negative_of c m1 = scaled_of c (when dec 9 1 ≤· m1 gives both_mean_of (1·0 ⊘ c) else both_below_one_of m1)

unfoldable pub pair_of : Both → Result Answer Refusal
pair_of b = Ok (Pair b.k b.e)

unfoldable pub ellipke_of : Float → Result Answer Refusal
ellipke_of m = by_domain m (Ok (Pair +∞ 1·0)) (Ok (Pair +0 +∞)) (pair_of (both_negative_of (root_of (1·0 ⊖ m)) (m ⊘ (m ⊖ 1·0)))) (pair_of (both_below_one_of m))
