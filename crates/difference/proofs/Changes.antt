-- How a row differs, test by test. Assumes nothing.
use mathlib.Core.Path.{◌≡◌, refl, ap, ◌∙◌, sym}
use mathlib.Core.Bool.{true, false}
use mathlib.Core.List.{List}
use Prim.Native.Nat.{ℕ}
use borrow.Author.Tests.{eq-eqb, ne_eqb}
use lib.Ieee.Scale.{finite}
use Rattle.laws.specs.Arithmetic.{float}
use Rattle.std.specs.Prelude.{Option, Some}
use Rattle.ledger.specs.Sheet.{finite_class}
use Rattle.ledger.specs.declared.row.Class.{Class}
use Rattle.ledger.specs.declared.row.Class.TheVariants.{Finite}
use Rattle.ledger.specs.Class.{class_at, class_number}
use Rattle.ledger.specs.laws.Classes.{finite as finite_number}
use Rattle.inspection.specs.laws.Class.{class_known}
use Rattle.inspection.specs.Rows.{class_in, word_of}
use Rattle.difference.specs.Steps.{steps_of}
use Rattle.difference.specs.Difference.{agree, distance_of, change_of}
use Rattle.difference.specs.declared.Change.{Change}
use Rattle.difference.specs.declared.Change.TheVariants.{Same, Moved, Alike, First, Steps}

-- ---- two finite rows: p and q are the second answers
module _ (s t : List ℕ) (i d p q : ℕ) (a : p ≡ word_of s i 5) (b : q ≡ word_of t i 5) (e : d ≡ steps_of (word_of s i 4) (word_of t i 4)) where
  pub one_old : finite (float p) ≡ false → First d ≡ distance_of s t i
  unfolding distance_of
  one_old h = rw (ap (λ (n : ℕ). finite (float n)) (sym a) ∙ h) (ap First e)

  module _ (h : finite (float p) ≡ true) where
    pub one_new : finite (float q) ≡ false → First d ≡ distance_of s t i
    unfolding distance_of
    one_new g = rw (ap (λ (n : ℕ). finite (float n)) (sym a) ∙ h, ap (λ (n : ℕ). finite (float n)) (sym b) ∙ g) (ap First e)

    pub both : finite (float q) ≡ true → (f : ℕ) → f ≡ steps_of p q → Steps d f ≡ distance_of s t i
    unfolding distance_of
    both g f k = rw (ap (λ (n : ℕ). finite (float n)) (sym a) ∙ h, ap (λ (n : ℕ). finite (float n)) (sym b) ∙ g) (λ j. Steps (e j) ((k ∙ (λ l. steps_of (a l) (b l))) j))

-- ---- any two: x and y are their classes
module _ (s t : List ℕ) (i : ℕ) where
  pub unchanged : agree s t i ≡ true → Same ≡ change_of s t i
  unfolding change_of
  unchanged h = rw h refl

  module _ (x y : Option Class) (h : agree s t i ≡ false) (a : x ≡ class_at (class_in s i)) (b : y ≡ class_at (class_in t i)) where
    pub moved : (x ≡ y → ⊥) → Moved x y ≡ change_of s t i
    unfolding change_of
    moved n = rw (h, ne_eqb (class_in s i) (class_in t i) (λ e. n (a ∙ ap class_at e ∙ sym b))) (λ j. Moved (a j) (b j))

    module _ (e : x ≡ y) where
      same_class : class_in s i ≡ class_in t i
      same_class = sym (class_known s i) ∙ ap class_number (sym a ∙ e ∙ b) ∙ class_known t i

      pub alike : (x ≡ Some Finite → ⊥) → Alike x ≡ change_of s t i
      unfolding change_of class_at
      alike n = rw (h, eq-eqb (class_in s i) (class_in t i) same_class, ne_eqb (class_in s i) finite_class (λ z. n (a ∙ ap class_at z))) (ap Alike a)

      pub far : x ≡ Some Finite → (r : Change) → r ≡ distance_of s t i → r ≡ change_of s t i
      unfolding change_of
      far z r d = rw (h, eq-eqb (class_in s i) (class_in t i) same_class, eq-eqb (class_in s i) finite_class (finite_number (class_in s i) (sym a ∙ z))) d
