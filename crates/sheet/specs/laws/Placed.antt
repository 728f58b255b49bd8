-- An edit is its row put in place: the row is always sound, so 10 speaks of the old row and the counts alone. Assumes nothing.
use Rattle.std.specs.Prelude.{◌≡◌, Bool, not, ◌||◌, List, ℕ, eqb}
use Rattle.std.proofs.Math.Path.{ap}
use Rattle.std.proofs.Common.{◌∙◌}
use Rattle.std.proofs.Math.Bool.{cond}
use Rattle.ledger.specs.Sheet.{with_times, sound}
use Rattle.ledger.specs.Calls.{rows_in, is_sheet_of, damaged, rungs, place_refusal, edited, place_of}
use Rattle.ledger.specs.laws.Refusals.{Accepted, past_7, past_10, past_rungs, rungs-same}
use Rattle.sheet.specs.declared.Entry.{Entry}
use Rattle.sheet.specs.Edit.{row_of, edit_refusal, edit_of}
use Rattle.sheet.specs.laws.Stored.{function_row_of, sound_row_of}

module _ (s : List ℕ) (i : ℕ) (e : Entry) where
  pub placed_refusal : place_refusal s i (row_of e) ≡ edit_refusal s i e.function
  unfolding place_refusal edit_refusal
  placed_refusal =
      ap (λ (q : ℕ). cond (not (is_sheet_of with_times s)) 7 q)
      (ap (λ (f : ℕ). rungs (rows_in s) i f (cond (not (sound (row_of e)) || damaged s i) 10 0)) (function_row_of e)
      ∙ rungs-same (rows_in s) i e.function _ _ (λ h. ap (λ (b : Bool). cond (not b || damaged s i) 10 0) (sound_row_of e h)))

  pub placed_edit : place_of s i (row_of e) ≡ edit_of s i e
  unfolding place_of edit_of
  placed_edit = ap (λ (q : ℕ). cond (eqb q 0) (edited s i (row_of e)) s) placed_refusal

pub edit_accepted : (s : List ℕ) (i f : ℕ) → edit_refusal s i f ≡ 0 → Accepted s i f
unfolding edit_refusal
edit_accepted s i f h =
    let a = past_7 (is_sheet_of with_times s) (rungs (rows_in s) i f (cond (damaged s i) 10 0)) h in
    let b = past_rungs (rows_in s) i f (cond (damaged s i) 10 0) a.1 in
    record { sheet = a.0; row = b.0; function = b.1; whole = past_10 (damaged s i) b.2 }
