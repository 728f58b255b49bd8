-- What a table has at an index. Assumes nothing.
use Rattle.std.proofs.Common.{◌≡◌, ℕ, zero, suc, ◌<◌, ◌≤◌, List, [], ◌∷◌, length, get_or, take, reverse, sym, refl, ap, ◌∙◌, ⊎_elim, subst, le_of_suc-le-suc, not-suc-le-zero}
use Rattle.laws.specs.laws.Flags.{lt-or-le}
use Rattle.std.specs.List.{fold}
use Rattle.std.proofs.lemmas.List.{reverse-append, get_or_past}
use Rattle.std.proofs.lemmas.List.Sums.{fold-append}
use lib.Ieee.{Float}
use Rattle.laws.specs.Arithmetic.{◌⊕◌, ◌⊗◌, +0}
use Rattle.pieces.specs.Polyeval.{horner_of}

-- from the last coefficient to the first
pub from_last : (x : Float) (c : List Float) → fold (λ sum k. sum ⊗ x ⊕ k) +0 (reverse c) ≡ horner_of x c
unfolding horner_of
from_last x [] = refl
from_last x (k ∷ ks) =
    let f : Float → Float → Float = λ sum k. sum ⊗ x ⊕ k in
    ap (fold f +0) (reverse-append (k ∷ []) ks) ∙ fold-append f +0 (reverse ks) (k ∷ []) ∙ ap (λ sum. sum ⊗ x ⊕ k) (from_last x ks)

-- each row without its padding
abbrev pub shortened : List ℕ → List (List Float) → List (List Float)
shortened (n ∷ ns) (r ∷ rs) = take n r ∷ shortened ns rs
shortened ns rs = []

at : (lengths : List ℕ) (rows : List (List Float)) (i : ℕ) → i < length lengths → i < length rows → take (get_or lengths i 0) (get_or rows i []) ≡ get_or (shortened lengths rows) i []
at [] rows i h l = absurd (not-suc-le-zero h)
at (n ∷ ns) [] i h l = absurd (not-suc-le-zero l)
at (n ∷ ns) (r ∷ rs) zero h l = refl
at (n ∷ ns) (r ∷ rs) (suc i) h l = at ns rs i (le_of_suc-le-suc h) (le_of_suc-le-suc l)

-- what is picked of a table of ten rows that are `whole` without their padding
pub picked : (lengths : List ℕ) (rows whole : List (List Float)) → length lengths ≡ 10 → length rows ≡ 10 → length whole ≡ 10 → shortened lengths rows ≡ whole → (i : ℕ) {r : List Float}
    → (i < 10 → r ≡ take (get_or lengths i 0) (get_or rows i [])) → (10 ≤ i → r ≡ []) → r ≡ get_or whole i []
picked lengths rows whole ten rowed all same i {r} within beyond = ⊎_elim inside outside (lt-or-le i 10)
  where
    inside : i < 10 → r ≡ get_or whole i []
    inside h = within h ∙ at lengths rows i (subst (λ (n : ℕ). i < n) (sym ten) h) (subst (λ (n : ℕ). i < n) (sym rowed) h) ∙ ap (λ (t : List (List Float)). get_or t i []) same

    outside : 10 ≤ i → r ≡ get_or whole i []
    outside h = beyond h ∙ sym (get_or_past whole i [] (subst (λ (n : ℕ). n ≤ i) (sym all) h))
