-- What holds of each of a list, and one leg after the other. Assumes nothing.
use Rattle.std.specs.Prelude.{◌≡◌, List, [], ◌∷◌, ◌++◌}
use Rattle.std.proofs.Math.Path.{refl}
use Rattle.month.specs.Month.{Leg, fold}
use Rattle.month.specs.Files.{Each}

module _ {A : Type 0} (P : A → Type 0) where
  pub each_append : (l m : List A) → Each P l → Each P m → Each P (l ++ m)
  each_append [] m x y = y
  each_append (a ∷ l) m x y = (x.0, each_append l m x.1 y)

  pub each_left : (l m : List A) → Each P (l ++ m) → Each P l
  each_left [] m x = tt
  each_left (a ∷ l) m x = (x.0, each_left l m x.1)

  pub each_right : (l m : List A) → Each P (l ++ m) → Each P m
  each_right [] m x = x
  each_right (a ∷ l) m x = each_right l m x.1

  pub each_map : (Q : A → Type 0) → ((a : A) → P a → Q a) → (l : List A) → Each P l → Each Q l
  each_map Q f [] x = tt
  each_map Q f (a ∷ l) x = (f a x.0, each_map Q f l x.1)

module _ {X : Type 0} (step : X → Leg → X) where
  pub fold-append : (x : X) (l m : List Leg) → fold step x (l ++ m) ≡ fold step (fold step x l) m
  unfolding fold
  fold-append x [] m = refl
  fold-append x (a ∷ l) m = fold-append (step x a) l m
