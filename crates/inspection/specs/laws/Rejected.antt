-- A row that the row tests reject: what it tells that one is found, or none. Assumes nothing.
use Rattle.std.specs.Prelude.{◌≡◌, Bool, true, false, cond, ◌&&◌, List, ℕ, ltb, Option, Some, None, is_some}
use Rattle.std.proofs.Common.{refl, sym, ap, ◌∙◌}
use Rattle.std.proofs.lemmas.Bool.{false≢true}
use Rattle.ledger.specs.Calls.{rows_in, is_sheet}
use Rattle.inspection.specs.Rows.{first_rejected, rejected_row}

abbrev or_zero : Option ℕ → ℕ
or_zero None = 0
or_zero (Some k) = k

module _ (s : List ℕ) (o : Option ℕ) (e : o ≡ rejected_row s) where
  pub row_rejected : (r : ℕ) → o ≡ Some r → (r ≡ first_rejected s) × (ltb (first_rejected s) (rows_in s) ≡ true)
  unfolding rejected_row
  row_rejected r h = go (is_sheet s) (ltb (first_rejected s) (rows_in s)) (sym e ∙ h)
    where
      go : (p q : Bool) → cond (p && q) (Some (first_rejected s)) None ≡ Some r → (r ≡ first_rejected s) × (q ≡ true)
      go true true z = (sym (ap (λ (o : Option ℕ). or_zero o) z), refl)
      go true false z = absurd (false≢true (ap is_some z))
      go false q z = absurd (false≢true (ap is_some z))

  pub none_rejected : is_sheet s ≡ true → o ≡ None → ltb (first_rejected s) (rows_in s) ≡ false
  unfolding rejected_row
  none_rejected h d = go (is_sheet s) (ltb (first_rejected s) (rows_in s)) h (sym e ∙ d)
    where
      go : (p q : Bool) → p ≡ true → ◌≡◌ {A = Option ℕ} (cond (p && q) (Some (first_rejected s)) None) None → q ≡ false
      go true true z d = absurd (false≢true (sym (ap is_some d)))
      go true false z d = refl
      go false q z d = absurd (false≢true z)
