-- `==` of byte strings is the ledger's `equal`. Assumes nothing.
use Rattle.std.specs.Prelude.{◌≡◌, refl, List, [], ◌∷◌, ℕ, nat_eq, ◌&&◌}
use Rattle.std.proofs.Common.{ap}
use Rattle.std.specs.Cmp.Lexicographic.{pointwise}
use Rattle.ledger.specs.Calls.{equal}

pub pointwise_is : (a b : List ℕ) → pointwise nat_eq a b ≡ equal a b
unfolding equal
pointwise_is [] [] = refl
pointwise_is [] (y ∷ ys) = refl
pointwise_is (x ∷ xs) [] = refl
pointwise_is (x ∷ xs) (y ∷ ys) = ap (λ b. nat_eq x y && b) (pointwise_is xs ys)
