-- The bytes that an edit leaves alone. Assumes nothing.
use Rattle.std.specs.Prelude.{◌≡◌, refl, Bool, true, false, cond, List, ◌++◌, ℕ, ◌+◌, ◌-◌, ◌≤◌, ◌<◌, eqb, length, take, drop, get_or}
use Rattle.std.proofs.Common.{ap, ◌∙◌, sym, append_assoc, arith, eqb-true, length-append, get_or-take, get_or-drop, get_or-append-add, length-take-le}
use Rattle.std.proofs.Math.Logic.{⊎_elim}
use Rattle.std.proofs.Math.ListN.{get_or-append}
use Rattle.laws.specs.Splice.{splice}
use Rattle.ledger.specs.Sheet.{Row, with_times, row_place, class_of}
use Rattle.ledger.specs.Calls.{rows_in, row_in, counts_in, revised, edited}
use Rattle.sheet.specs.Edit.{edit_refusal, edit_of}
use Rattle.laws.specs.laws.Splices.{length-splice}
use Rattle.ledger.specs.laws.Refusals.{Accepted, sheet_of_length, length-counts, length-recount, length-totals}
use Rattle.sheet.specs.laws.Placed.{edit_accepted}
use Rattle.sheet.specs.laws.Stored.{length_row_of}
use Rattle.demands.specs.Edits.{Edit, after, worked, Elsewhere}

before_part : (s x : List ℕ) (a k : ℕ) → a ≤ length s → k < a → get_or (splice s a x) k 0 ≡ get_or s k 0
before_part s x a k h g =
    get_or-append (take a s) (x ++ drop (a + length x) s) 0 k (rw (length-take-le a s h) g) ∙ get_or-take a s k 0 g

after_part : (s x : List ℕ) (a k : ℕ) → a ≤ length s → a + length x ≤ k → get_or (splice s a x) k 0 ≡ get_or s k 0
after_part s x a k h g =
    let p = take a s ++ x in
    let q = drop (a + length x) s in
    let m = k - (a + length x) in
    let l : length p ≡ a + length x = simp length-append (omega (arith, length-take-le a s h)) in
    let e : k ≡ length p + m = omega arith in
    let f : a + length x + m ≡ k = omega arith in
    ap (λ (t : List ℕ). get_or t k 0) (sym (append_assoc (take a s) x q))
    ∙ ap (λ (n : ℕ). get_or (p ++ q) n 0) e
    ∙ get_or-append-add p q m 0
    ∙ get_or-drop (a + length x) s m 0
    ∙ ap (λ (n : ℕ). get_or s n 0) f

module _ (s : List ℕ) (e : Edit) (a : Accepted s e.row e.entry.function) where
  w : Row
  w = worked e

  w_48 : length w ≡ 48
  unfolding w
  w_48 = length_row_of e.entry

  mid : List ℕ
  mid = splice s (row_place e.row) w

  T : List ℕ
  T = revised s (row_in s e.row) (worked e)

  T-296 : length T ≡ 296
  unfolding T revised
  T-296 = length-totals _ _ (length-recount (counts_in s) (class_of (row_in s e.row)) (class_of (worked e)) ∙ length-counts s)

  mid_length : length mid ≡ length s
  unfolding mid
  mid_length = length-splice s (row_place e.row) w (omega (arith, w_48, sheet_of_length with_times s a.sheet, a.row))

  edited-length : length (edited s e.row (worked e)) ≡ length s
  unfolding edited w mid T
  edited-length = length-splice mid (row_place (rows_in s)) T (omega (arith, T-296, mid_length, sheet_of_length with_times s a.sheet)) ∙ mid_length

  edited_elsewhere : (k : ℕ) → Elsewhere s e k → get_or (edited s e.row (worked e)) k 0 ≡ get_or s k 0
  unfolding edited w mid T
  edited_elsewhere k h =
      let l = sheet_of_length with_times s a.sheet in
      before_part mid T (row_place (rows_in s)) k (omega (arith, mid_length)) h.0
      ∙ ⊎_elim (λ g. before_part s w (row_place e.row) k (omega (arith, a.row)) g) (λ g. after_part s w (row_place e.row) k (omega (arith, a.row)) (omega (arith, w_48))) h.1

module _ (s : List ℕ) (e : Edit) where
  by_case : (b : Bool) → eqb (edit_refusal s e.row e.entry.function) 0 ≡ b
      → (length (cond b (edited s e.row (worked e)) s) ≡ length s) × ((k : ℕ) → Elsewhere s e k → get_or (cond b (edited s e.row (worked e)) s) k 0 ≡ get_or s k 0)
  by_case true h = let a = edit_accepted s e.row e.entry.function (eqb-true _ _ h) in (edited-length s e a, edited_elsewhere s e a)
  by_case false h = (refl, λ k g. refl)

  pub same_length : length (after s e) ≡ length s
  unfolding edit_of
  same_length = (by_case (eqb (edit_refusal s e.row e.entry.function) 0) refl).0

  pub untouched : (k : ℕ) → Elsewhere s e k → get_or (after s e) k 0 ≡ get_or s k 0
  unfolding edit_of
  untouched = (by_case (eqb (edit_refusal s e.row e.entry.function) 0) refl).1
