-- m < 0, for E alone and for K and E together: the test of m1 decides, as in the definitions, whichever of the root and its factor is worked out first.
use mathlib.Core.Path.{◌≡◌, ap, ◌∙◌}
use mathlib.Core.Bool.{Bool, true, false, cond}
use lib.Ieee.{Float}
use Rattle.laws.specs.Arithmetic.{◌⊘◌, 1·0}
use Rattle.laws.specs.Ladder.{held, passed}

-- c is the root; `put` takes a value at m1 to one at m
module _ {B : Type 0} (put : Float → B → B) (mean : Float → B) (piece : B) {r c : Float} {b : B} {t : Bool} (root : r ≡ c) where
  pub by_mean : b ≡ mean (1·0 ⊘ r) → t ≡ true → put r b ≡ put c (cond t (mean (1·0 ⊘ c)) piece)
  by_mean e h = λ i. put (root i) (held (mean (1·0 ⊘ c)) piece h (e ∙ ap (λ x. mean (1·0 ⊘ x)) root) i)

  pub by_piece : b ≡ piece → t ≡ false → put r b ≡ put c (cond t (mean (1·0 ⊘ c)) piece)
  by_piece e h = λ i. put (root i) (passed (mean (1·0 ⊘ c)) piece h e i)
