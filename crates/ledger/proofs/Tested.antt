-- The refusals, test by test. Assumes nothing.
use mathlib.Core.Path.{◌≡◌, refl, ap}
use mathlib.Core.Bool.{Bool, true, false, cond, not, ◌||◌, false≢true}
use mathlib.Core.List.{List}
use Prim.Native.Nat.{ℕ, ◌≤◌, ◌<◌}
use borrow.Author.Tests.{eq-eqb, ne_eqb, le-leb, lt-leb, le-ltb}
use lib.Dec.{leb, ltb, eqb}
use lib.ListN.{length, take, get_or}
use Rattle.answer.specs.Numbers.{last}
use Rattle.ledger.specs.Bytes.{number, read}
use Rattle.ledger.specs.Sheet.{Row, withdrawn, without_times, with_times, most_rows, size_for, entries, function_in, class_of, sound}
use Rattle.ledger.specs.Calls.{Sized, rows_in, row_in, counts_in, equal, is_sheet_of, is_sheet, plus, miscounted, damaged, row_rungs, function_rungs, rungs, total_refusal, place_refusal}
use Rattle.ledger.specs.laws.Refusals.{says, past_function}

-- ---- a sheet that says k
module _ (k : ℕ) (s : List ℕ) where
  pub too_many : most_rows < rows_in s → false ≡ is_sheet_of k s
  unfolding is_sheet_of
  too_many g = rw (lt-leb (rows_in s) most_rows g)

  module _ (g : rows_in s ≤ most_rows) where
    pub odd_length : (length s ≡ size_for (rows_in s) → ⊥) → false ≡ is_sheet_of k s
    unfolding is_sheet_of
    odd_length h = rw (le-leb (rows_in s) most_rows g, ne_eqb (length s) (size_for (rows_in s)) h)

    pub by_contents : Sized s → equal (read 4 8 s) (entries k (rows_in s)) ≡ is_sheet_of k s
    unfolding is_sheet_of
    by_contents h = rw (le-leb (rows_in s) most_rows g, eq-eqb (length s) (size_for (rows_in s)) h)

-- ---- a sheet of either kind
module _ (s : List ℕ) where
  pub not_the_first : is_sheet_of with_times s ≡ false → is_sheet_of without_times s ≡ is_sheet s
  unfolding is_sheet
  not_the_first h = rw h

  pub by_first_word : is_sheet s ≡ true → eqb (number (take 4 s)) with_times ≡ is_sheet_of with_times s
  unfolding is_sheet
  by_first_word h = go (is_sheet_of with_times s) (is_sheet_of without_times s) refl refl h
    where
      go : (p q : Bool) → is_sheet_of with_times s ≡ p → is_sheet_of without_times s ≡ q → (p || q) ≡ true → eqb (number (take 4 s)) with_times ≡ p
      go true q x y z = eq-eqb _ _ (says with_times s x)
      go false true x y z = ap (λ (n : ℕ). eqb n with_times) (says without_times s y)
      go false false x y z = absurd (false≢true z)

-- ---- damage
module _ (s : List ℕ) (i : ℕ) where
  pub miscounted-sum : (plus (counts_in s) ≡ rows_in s → ⊥) → true ≡ miscounted s i
  unfolding miscounted
  miscounted-sum g = rw (ne_eqb _ _ g)

  pub miscounted-class : plus (counts_in s) ≡ rows_in s → eqb (get_or (counts_in s) (class_of (row_in s i)) 0) 0 ≡ miscounted s i
  unfolding miscounted
  miscounted-class g = rw (eq-eqb _ _ g)

  pub damaged-row : sound (row_in s i) ≡ false → true ≡ damaged s i
  unfolding damaged
  damaged-row h = rw h

  pub damaged-counts : sound (row_in s i) ≡ true → miscounted s i ≡ damaged s i
  unfolding damaged
  damaged-counts h = rw h

-- ---- refusals in their order
module _ (s : List ℕ) where
  pub total_7 : is_sheet s ≡ false → 7 ≡ total_refusal s
  unfolding total_refusal
  total_7 h = rw h

  pub total_0 : is_sheet s ≡ true → 0 ≡ total_refusal s
  unfolding total_refusal
  total_0 h = rw h

module _ (taken : Bool) (r i : ℕ) where
  pub row_7 : taken ≡ false → 7 ≡ row_rungs taken r i
  row_7 h = rw h

  module _ (h : taken ≡ true) where
    pub row_8 : r ≤ i → 8 ≡ row_rungs taken r i
    row_8 g = rw (h, le-leb _ _ g)

    pub row_0 : i < r → 0 ≡ row_rungs taken r i
    row_0 g = rw (h, lt-leb _ _ g)

module _ (s : List ℕ) (i : ℕ) (w : Row) where
  pub place-row : let q = row_rungs (is_sheet_of with_times s) (rows_in s) i in (q ≡ 0 → ⊥) → q ≡ place_refusal s i w
  unfolding place_refusal rungs
  place-row h = go (is_sheet_of with_times s) (leb (rows_in s) i) _ h
    where
      go : (p q : Bool) (rest : ℕ) → (◌≡◌ {A = ℕ} (cond (not p) 7 (cond q 8 0)) 0 → ⊥) → ◌≡◌ {A = ℕ} (cond (not p) 7 (cond q 8 0)) (cond (not p) 7 (cond q 8 rest))
      go true true rest h = refl
      go true false rest h = absurd (h refl)
      go false q rest h = refl

  module _ (h : is_sheet_of with_times s ≡ true) (g : i < rows_in s) where
    pub place_function : let q = function_rungs (function_in w) 0 in (q ≡ 0 → ⊥) → q ≡ place_refusal s i w
    unfolding place_refusal rungs
    place_function k = rw (h, lt-leb _ _ g) (go (eqb (function_in w) withdrawn) (ltb last (function_in w)) _ k)
      where
        go : (p q : Bool) (rest : ℕ) → (◌≡◌ {A = ℕ} (cond p 22 (cond q 9 0)) 0 → ⊥) → ◌≡◌ {A = ℕ} (cond p 22 (cond q 9 0)) (cond p 22 (cond q 9 rest))
        go true q rest e = refl
        go false true rest e = refl
        go false false rest e = absurd (e refl)

    module _ (z : function_rungs (function_in w) 0 ≡ 0) where
      may : (eqb (function_in w) withdrawn ≡ false) × (function_in w ≤ last) × (◌≡◌ {A = ℕ} 0 0)
      may = past_function (function_in w) 0 z

      pub place_new : sound w ≡ false → 10 ≡ place_refusal s i w
      unfolding place_refusal rungs
      place_new d = rw (h, lt-leb _ _ g, may.0, le-ltb _ _ may.1, d)

      pub place_old : sound w ≡ true → damaged s i ≡ true → 10 ≡ place_refusal s i w
      unfolding place_refusal rungs
      place_old d e = rw (h, lt-leb _ _ g, may.0, le-ltb _ _ may.1, d, e)

      pub place_0 : sound w ≡ true → damaged s i ≡ false → 0 ≡ place_refusal s i w
      unfolding place_refusal rungs
      place_0 d e = rw (h, lt-leb _ _ g, may.0, le-ltb _ _ may.1, d, e)
