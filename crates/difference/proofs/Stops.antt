-- The rungs of a refused comparison. Assumes nothing.
use Rattle.std.specs.Prelude.{◌≡◌, refl, Bool, true, false, cond, List, ℕ, ltb, Result, Ok, Err, ⊤}
use Rattle.std.proofs.Common.{sym, eq-eqb, ne_eqb}
use Rattle.ledger.specs.Calls.{rows_in, is_sheet}
use Rattle.inspection.specs.Rows.{first_rejected}
use Rattle.difference.specs.declared.Side.TheVariants.{Old, New}
use Rattle.difference.specs.declared.Stop.{Stop}
use Rattle.difference.specs.declared.Stop.TheVariants.{NotASheet, Unequal, Damaged}
use Rattle.difference.specs.Difference.{rejected_of, stop_of}

-- a test that stops, and one that lets pass
stops : (b : Bool) (x e : Stop) (y : Result ⊤ Stop) → cond {A = Result ⊤ Stop} b (Err x) (Ok tt) ≡ Err e → ◌≡◌ {A = Result ⊤ Stop} (Err e) (cond b (Err x) y)
stops true x e y h = sym h
stops false x e y h = let g : ◌≡◌ {A = Result ⊤ Stop} (Ok tt) (Err e) = h in cc

passes : (b : Bool) (x : Stop) (u : ⊤) → cond {A = Result ⊤ Stop} b (Err x) (Ok tt) ≡ Ok u → b ≡ false
passes true x u h = let g : ◌≡◌ {A = Result ⊤ Stop} (Err x) (Ok u) = h in cc
passes false x u h = refl

-- ---- each return
module _ (s t : List ℕ) where
  pub stop_old : is_sheet s ≡ false → Err (NotASheet Old) ≡ stop_of s t
  unfolding stop_of
  stop_old h = rw h refl

  module _ (a : is_sheet s ≡ true) where
    pub stop_new : is_sheet t ≡ false → Err (NotASheet New) ≡ stop_of s t
    unfolding stop_of
    stop_new h = rw (a, h) refl

    module _ (b : is_sheet t ≡ true) where
      pub stop-counts : (rows_in s ≡ rows_in t → ⊥) → Err Unequal ≡ stop_of s t
      unfolding stop_of
      stop-counts h = rw (a, b, ne_eqb (rows_in s) (rows_in t) h) refl

      module _ (c : rows_in s ≡ rows_in t) where
        pub stop_old_row : (e : Stop) → rejected_of s Old ≡ Err e → Err e ≡ stop_of s t
        unfolding stop_of rejected_of
        stop_old_row e h = rw (a, b, eq-eqb (rows_in s) (rows_in t) c) (stops (ltb (first_rejected s) (rows_in s)) (Damaged Old (first_rejected s)) e _ h)

        pub stop_new_row : (u : ⊤) → rejected_of s Old ≡ Ok u → rejected_of t New ≡ stop_of s t
        unfolding stop_of rejected_of
        stop_new_row u h = rw (a, b, eq-eqb (rows_in s) (rows_in t) c, passes (ltb (first_rejected s) (rows_in s)) (Damaged Old (first_rejected s)) u h) refl
