-- The calls keep the length of the bytes that they are given. Assumes nothing.
use Rattle.std.specs.Prelude.{◌≡◌, ℕ, zero, suc, ◌+◌, ◌*◌, ◌≤◌, Bool, true, false, cond, List, ◌++◌, length, replicate, ◌==◌, refl}
use Rattle.std.proofs.Common.{sym, ◌∙◌, arith, length-append, eqb-true}
use Rattle.std.proofs.lemmas.List.{length-replicate}
use Rattle.laws.specs.Splice.{splice}
use Rattle.ledger.specs.Bytes.{fields}
use Rattle.ledger.specs.Sheet.{Row, with_times, entries, row_place, size_for, blank_row, class_of, totals, counts, flat, encode}
use Rattle.ledger.specs.Calls.{rows_in, row_in, counts_in, blank_refusal, blank_of, revised, edited}
use Rattle.laws.specs.laws.Splices.{length-splice}
use Rattle.ledger.specs.laws.Fields.{length_fields}
use Rattle.ledger.specs.laws.Refusals.{Accepted, sheet_of_length, makeable, length-counts, length-recount, length-totals}
use Rattle.sheet.specs.declared.Entry.{Entry}
use Rattle.sheet.specs.Edit.{row_of, edit_refusal, edit_of}
use Rattle.sheet.specs.laws.Placed.{edit_accepted}
use Rattle.sheet.specs.laws.Stored.{length_row_of}
use Rattle.runner.specs.Run.{zeros}

pub length-zeros : (n : ℕ) → length (zeros n) ≡ n
unfolding zeros
length-zeros n = length-replicate n 0

-- ---- a blank sheet

length-flat : (r : ℕ) → length (flat (replicate r blank_row)) ≡ 48 * r
unfolding flat
length-flat zero = refl
length-flat (suc r) = rw (length-append blank_row (flat (replicate r blank_row)), length-flat r) (omega arith)

length-contents : (k r : ℕ) → length (fields 4 (entries k r)) ≡ 32
unfolding entries
length-contents k r = length_fields 4 (entries k r)

three_parts : (h f cs : List ℕ) (t : ℕ) → length cs ≡ 5 → length (h ++ (f ++ totals cs t)) ≡ length h + length f + 296
three_parts h f cs t five = omega (arith, length-append h (f ++ totals cs t), length-append f (totals cs t), length-totals cs t five)

length_made : (r : ℕ) → length (encode (replicate r blank_row)) ≡ size_for r
unfolding encode
length_made r =
    let ws : List Row = replicate r blank_row in
    three_parts (fields 4 (entries with_times (length ws))) (flat ws) (counts ws) _ refl
    ∙ rw (length-contents with_times (length ws), length-flat r) (omega arith)

pub length_blank : (s : List ℕ) (r : ℕ) → length (blank_of s r) ≡ length s
unfolding blank_of
length_blank s r = by (blank_refusal s r == 0) refl where
  by : (t : Bool) → (blank_refusal s r == 0) ≡ t → length (cond t (encode (replicate r blank_row)) s) ≡ length s
  by true e = length_made r ∙ sym (makeable s r (eqb-true _ _ e)).1
  by false e = refl

-- ---- an edit

two_parts : (s w t : List ℕ) (a b : ℕ) → a + length w ≤ length s → b + length t ≤ length s → length (splice (splice s a w) b t) ≡ length s
two_parts s w t a b h k =
    let one : length (splice s a w) ≡ length s = length-splice s a w h in
    length-splice (splice s a w) b t (rw one k) ∙ one

length-revised : (s : List ℕ) (o n : Row) → length (revised s o n) ≡ 296
unfolding revised
length-revised s o n = length-totals _ _ (length-recount (counts_in s) (class_of o) (class_of n) ∙ length-counts s)

length-edited : (s : List ℕ) (i f : ℕ) (w : Row) → Accepted s i f → length w ≡ 48 → length (edited s i w) ≡ length s
unfolding edited
length-edited s i f w a row =
    let size = sheet_of_length with_times s a.sheet in
    two_parts s w (revised s (row_in s i) w) (row_place i) (row_place (rows_in s)) (omega (arith, size, a.row)) (omega (arith, size, length-revised s (row_in s i) w))

pub length_edit : (s : List ℕ) (row : ℕ) (e : Entry) → length (edit_of s row e) ≡ length s
unfolding edit_of
length_edit s row e = by (edit_refusal s row e.function == 0) refl where
  by : (t : Bool) → (edit_refusal s row e.function == 0) ≡ t → length (cond t (edited s row (row_of e)) s) ≡ length s
  by true h = length-edited s row e.function (row_of e) (edit_accepted s row e.function (eqb-true _ _ h)) (length_row_of e)
  by false h = refl
