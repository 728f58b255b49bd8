-- ellipk.rs: K(m), operation by operation. Definitions only.
use Rattle.std.specs.Prelude.{Bool, false, Float, Result, Ok}
use Rattle.laws.specs.Arithmetic.{◌⊕◌, ◌⊖◌, ◌⊗◌, ◌⊘◌, dec, +0, 1·0, 4·0, π}
use Rattle.root.specs.Root.{root_of}
use Rattle.answer.specs.declared.Answer.{Answer}
use Rattle.answer.specs.declared.Refusal.{Refusal}
use Rattle.answer.specs.declared.Answer.TheVariants.{One, Infinite}
use Rattle.legendre.specs.Domain.{by_domain, below_one_of}
use Rattle.legendre.specs.Mean.{arithmetic_of, geometric_of, goes_on_of, iterated}
use Rattle.pieces.specs.Piece.{k_piece_of}
use Rattle.legendre.specs.declared.k.Means.{Means}

abbrev pub k_tolerance : Float
k_tolerance = dec 1 7

unfoldable pub goes_on : Means → Bool
goes_on s = goes_on_of k_tolerance s.x s.y

unfoldable pub next_of : Means → Means
next_of s = record { x = arithmetic_of s.x s.y; y = geometric_of s.x s.y }

-- K from the last two means
unfoldable pub k_from_of : Float → Float → Float
k_from_of x y =
    let diff = x ⊖ y in
    let sum = x ⊕ y in
    let corr = 1·0 ⊖ diff ⊗ diff ⊘ (4·0 ⊗ sum ⊗ sum) in
    π ⊘ (sum ⊗ corr)

-- the mean of 1 and y0 = √(1-m), at most 32 rounds
unfoldable pub last_means_of : Float → Means
last_means_of y0 = iterated goes_on next_of 32 (record { x = 1·0; y = y0 })

unfoldable pub k_mean_of : Float → Float
k_mean_of y0 = k_from_of (last_means_of y0).x (last_means_of y0).y

unfoldable pub k_below_one_of : Float → Float
k_below_one_of m = below_one_of k_piece_of k_mean_of m

-- K(1) = ∞, K(-∞) = 0; negative m always by the mean
unfoldable pub ellipk_of : Float → Result Answer Refusal
ellipk_of m = by_domain m (Ok (Infinite false)) (Ok (One +0)) (Ok (One (k_mean_of (root_of (1·0 ⊖ m))))) (Ok (One (k_below_one_of m)))

-- the file's `ellipk_precise_unchecked`: the mean for any m
unfoldable pub k_unchecked_of : Float → Float
k_unchecked_of m = k_mean_of (root_of (1·0 ⊖ m))
