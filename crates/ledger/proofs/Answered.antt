-- What the public calls hand back, refused and not. Assumes nothing.
use mathlib.Core.Path.{◌≡◌, refl, ap, sym}
use mathlib.Core.Bool.{Bool, true, false, cond}
use mathlib.Core.List.{List}
use Prim.Native.Nat.{ℕ, ◌+◌, ◌<◌, ◌≤◌}
use native.Mathlib.Omega.{arith}
use borrow.Author.Tests.{eq-eqb, ne_eqb, lt-ltb, le-ltb}
use lib.Dec.{eqb}
use lib.ListN.{length, get_or, replicate, get_or-eq_default}
use Rattle.laws.specs.Arithmetic.{+0}
use Rattle.std.specs.Prelude.{Result, is_err}
use Rattle.answer.specs.declared.Refusal.{Refusal}
use Rattle.answer.specs.Answer.{refusal_of}
use lib.Ieee.{round, of_bits}
use Rattle.total.specs.Total.{Half, round_total}
use Rattle.ledger.specs.Sheet.{Row, row_place, most_rows, size_for, encode, blank_row}
use Rattle.ledger.specs.Calls.{Sized, rows_in, counts_in, total_in, is_sheet, row_refusal, total_refusal, place_refusal, blank_refusal, edited, place_of, blank_of, total_of, exact_of, count_of}
use Rattle.ledger.specs.laws.Refusals.{length-counts, row_room, readable, sheet_length, sheet_taken, refused, taken}

-- ---- a row placed
module _ (s : List ℕ) (i : ℕ) (w : Row) (r : Result (Unit {0}) Refusal) (e : refusal_of r ≡ place_refusal s i w) where
  pub place_refused : is_err r ≡ true → s ≡ place_of s i w
  unfolding place_of
  place_refused h = rw (ne_eqb (place_refusal s i w) 0 (refused r _ e h))

  pub place-stored : is_err r ≡ false → (t : List ℕ) → t ≡ edited s i w → t ≡ place_of s i w
  unfolding place_of
  place-stored h t d = rw (eq-eqb (place_refusal s i w) 0 (taken r _ e h)) d

-- ---- a row read: what the calls on a row's own bytes need, and what decides between the two things that they hand back
module _ (s : List ℕ) (i : ℕ) (r : Result (Unit {0}) Refusal) (e : refusal_of r ≡ row_refusal s i) where
  pub unreadable : is_err r ≡ true → eqb (row_refusal s i) 0 ≡ false
  unreadable h = ne_eqb (row_refusal s i) 0 (refused r _ e h)

  module _ (h : is_err r ≡ false) where
    can : (is_sheet s ≡ true) × (i < rows_in s)
    can = readable s i (taken r _ e h)

    pub row_read : eqb (row_refusal s i) 0 ≡ true
    row_read = eq-eqb (row_refusal s i) 0 (taken r _ e h)

    pub read_sheet : is_sheet s ≡ true
    read_sheet = can.0

    pub read-room : row_place i + 48 ≤ length s
    read-room = row_room s (sheet_length s can.0) i can.1

-- ---- the total and the counts
module _ (s : List ℕ) (r : Result (Unit {0}) Refusal) (e : refusal_of r ≡ total_refusal s) where
  module _ (h : is_err r ≡ true) where
    unfit : eqb (total_refusal s) 0 ≡ false
    unfit = ne_eqb (total_refusal s) 0 (refused r _ e h)

    pub exact_refused : 0 ≡ exact_of s
    unfolding exact_of
    exact_refused = rw unfit

    pub count_refused : (k : ℕ) → 0 ≡ count_of s k
    unfolding count_of
    count_refused k = rw unfit

  module _ (h : is_err r ≡ false) where
    given : eqb (total_refusal s) 0 ≡ true
    given = eq-eqb (total_refusal s) 0 (taken r _ e h)

    pub total_room : Sized s
    total_room = sheet_length s (sheet_taken s r e h)

    pub exact-given : total_in s ≡ exact_of s
    unfolding exact_of
    exact-given = rw given

    pub count_none : (k : ℕ) → 4 < k → 0 ≡ count_of s k
    unfolding count_of
    count_none k g = rw given (sym (get_or-eq_default (counts_in s) 0 {n = k} (omega (arith, length-counts s))))

    pub count-given : (k : ℕ) (l : List ℕ) → l ≡ counts_in s → get_or l k 0 ≡ count_of s k
    unfolding count_of
    count-given k l d = rw given (ap (λ (t : List ℕ). get_or t k 0) d)

-- the exact total, 0 where it is refused, rounds to the total, +0 there
pub total_exact : (s : List ℕ) → round_total (exact_of s) ≡ total_of s
unfolding exact_of total_of round_total Half round of_bits
total_exact s = go (eqb (total_refusal s) 0)
  where
    go : (b : Bool) → round_total (cond b (total_in s) 0) ≡ cond b (round_total (total_in s)) +0
    go true = refl
    go false = refl

-- ---- a blank sheet
module _ (s : List ℕ) (r : ℕ) where
  pub blank_11 : most_rows < r → (11 ≡ blank_refusal s r) × (s ≡ blank_of s r)
  unfolding blank_refusal blank_of
  blank_11 h = (rw (lt-ltb _ _ h), rw (lt-ltb _ _ h))

  module _ (h : r ≤ most_rows) where
    pub blank_7 : (length s ≡ size_for r → ⊥) → (7 ≡ blank_refusal s r) × (s ≡ blank_of s r)
    unfolding blank_refusal blank_of
    blank_7 g = (rw (le-ltb _ _ h, ne_eqb _ _ g), rw (le-ltb _ _ h, ne_eqb _ _ g))

    pub blank_made : length s ≡ size_for r → (t : List ℕ) → t ≡ encode (replicate r blank_row) → (0 ≡ blank_refusal s r) × (t ≡ blank_of s r)
    unfolding blank_refusal blank_of
    blank_made g t d = (rw (le-ltb _ _ h, eq-eqb _ _ g), rw (le-ltb _ _ h, eq-eqb _ _ g) d)
