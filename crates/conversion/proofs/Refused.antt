-- The tests of rows and counts, and the refusals in their order. Assumes nothing.
use mathlib.Core.Path.{◌≡◌, ap, ◌∙◌, sym}
use mathlib.Core.Bool.{Bool, true, false, not}
use mathlib.Core.List.{List}
use Prim.Native.Nat.{ℕ, ◌≤◌, ◌<◌}
use borrow.Author.Tests.{eq-eqb, ne_eqb, lt-ltb, le-ltb}
use lib.Dec.{eqb}
use Rattle.ledger.specs.Calls.{rows_in, is_sheet_of, times_of, count_of}
use Rattle.inspection.specs.Rows.{sound_row, class_in}
use Rattle.conversion.specs.Conversion.{says_before, first_of, rejected, uncounted, oftener, stopped, stop_of}

-- ---- the tests
module _ (s : List ℕ) (i : ℕ) where
  pub row-rejected : sound_row s i ≡ false → true ≡ rejected s i
  unfolding rejected
  row-rejected h = rw h

  pub class-rejected : sound_row s i ≡ true → eqb (count_of s (class_in s i)) 0 ≡ rejected s i
  unfolding rejected
  class-rejected h = rw h

  pub blank_not : class_in s i ≡ 0 → false ≡ oftener s i
  unfolding oftener
  blank_not h = rw (eq-eqb _ _ h)

  pub times-not : (class_in s i ≡ 0 → ⊥) → not (eqb (times_of s i) 1) ≡ oftener s i
  unfolding oftener
  times-not h = rw (ne_eqb _ _ h)

-- ---- what the sheet says
pub said : (s : List ℕ) (forth b : Bool) (k : ℕ) → k ≡ says_before forth → b ≡ is_sheet_of k s → is_sheet_of (says_before forth) s ≡ b
said s forth b k e h = ap (λ (n : ℕ). is_sheet_of n s) (sym e) ∙ sym h

-- ---- in their order
module _ (forth : Bool) (s : List ℕ) where
  pub stop_7 : is_sheet_of (says_before forth) s ≡ false → stopped 7 0 ≡ stop_of forth s
  unfolding stop_of
  stop_7 h = rw h

  -- of a sheet of r rows, of which d is the first that is rejected
  module _ (h : is_sheet_of (says_before forth) s ≡ true) (r d : ℕ) (q : r ≡ rows_in s) (e : d ≡ first_of (rejected s) r) where
    pub stop_10 : d < r → stopped 10 d ≡ stop_of forth s
    unfolding stop_of
    stop_10 g = rw (h, ← q, ← e, lt-ltb d r g)

    module _ (g : r ≤ d) where
      pub stop-counts : uncounted s ≡ true → stopped 10 r ≡ stop_of forth s
      unfolding stop_of
      stop-counts u = rw (h, ← q, ← e, le-ltb d r g, u)

      module _ (u : uncounted s ≡ false) where
        pub stop-none : forth ≡ true → stopped 0 0 ≡ stop_of forth s
        unfolding stop_of
        stop-none f = rw (h, ← q, ← e, le-ltb d r g, u, f)

        -- o the first that was driven other than once
        module _ (f : forth ≡ false) (o : ℕ) (p : o ≡ first_of (oftener s) r) where
          pub stop_17 : o < r → stopped 17 o ≡ stop_of forth s
          unfolding stop_of
          stop_17 l = rw (h, ← q, ← e, le-ltb d r g, u, f, ← p, lt-ltb o r l)

          pub stop_0 : r ≤ o → stopped 0 0 ≡ stop_of forth s
          unfolding stop_of
          stop_0 l = rw (h, ← q, ← e, le-ltb d r g, u, f, ← p, le-ltb o r l)
