-- Where the counts, the total and a row lie, and what a write leaves where it was. Assumes nothing.
use mathlib.Core.Path.{◌≡◌, ap, ◌∙◌, sym}
use mathlib.Core.List.{List, [], ◌∷◌, ◌++◌, append_assoc}
use Prim.Native.Nat.{ℕ, ◌+◌, ◌-◌, ◌/◌, ◌≤◌, ◌<◌}
use native.Mathlib.Omega.{arith}
use lib.ListN.{length, take, drop, get_or, length-append}
use lib.Seq.{drop-drop, length-take-le}
use Rattle.total.specs.Total.{limbs_of}
use Rattle.laws.specs.Splice.{splice}
use Rattle.ledger.specs.Bytes.{number, fields, read}
use Rattle.ledger.specs.Sheet.{row_place, size_for, most_rows, class_of, sound, retotal, totals}
use Rattle.ledger.specs.Calls.{Sized, rows_in, row_in, counts_in, total_in, recount, plus, revised, edited}
use Rattle.laws.specs.laws.Splices.{drop_past, length-splice}
use mathlib.Core.Bool.{true}
use Rattle.ledger.specs.laws.Refusals.{Undamaged}
use Rattle.ledger.proofs.Counts.{limbs_bytes}

-- ---- the totals written
pub totals_are : (cs c : List ℕ) (o n t : ℕ) (l : List ℕ) → fields 8 c ≡ fields 4 (recount cs o n ++ (0 ∷ [])) → l ≡ limbs_of t → fields 8 c ++ fields 8 l ≡ totals (recount cs o n) t
unfolding totals
totals_are cs c o n t l e d = (λ i. e i ++ fields 8 (d i)) ∙ ap (λ (b : List ℕ). fields 4 (recount cs o n ++ (0 ∷ [])) ++ b) (limbs_bytes t)

-- ---- a row written
drop-after : (s x : List ℕ) (a b : ℕ) → a ≤ length s → a + length x ≤ b → drop b (splice s a x) ≡ drop b s
drop-after s x a b h g =
    let m = b - (a + length x) in
    let e : b ≡ a + length x + m = omega arith in
    let l : length (take a s ++ x) ≡ a + length x = simp length-append (omega (arith, length-take-le a s h)) in
    ap (λ (n : ℕ). drop n (splice s a x)) e
    ∙ ap (drop (a + length x + m)) (sym (append_assoc (take a s) x (drop (a + length x) s)))
    ∙ drop_past (take a s ++ x) (drop (a + length x) s) (a + length x) m l
    ∙ drop-drop m (a + length x) s
    ∙ ap (λ (n : ℕ). drop n s) (sym e)

module _ (s w : List ℕ) (i : ℕ) (h : Sized s) (g : i < rows_in s) (e : length w ≡ 48) where
  room : row_place i + length w ≤ length s
  room = omega (arith, h, g, e)

  row-length : length (splice s (row_place i) w) ≡ length s
  row-length = length-splice s (row_place i) w room

  rows_kept : rows_in (splice s (row_place i) w) ≡ rows_in s
  unfolding rows_in
  rows_kept = ap (λ (n : ℕ). (n - 328) / 48) row-length

  after : (n : ℕ) → drop (row_place (rows_in s) + n) (splice s (row_place i) w) ≡ drop (row_place (rows_in s) + n) s
  after n = drop-after s w (row_place i) (row_place (rows_in s) + n) (omega (arith, room)) (omega (arith, g, e))

  counts-kept : counts_in (splice s (row_place i) w) ≡ counts_in s
  unfolding counts_in
  counts-kept =
      ap (λ (n : ℕ). read 4 5 (drop (row_place n) (splice s (row_place i) w))) rows_kept
      ∙ ap (read 4 5) (drop-after s w (row_place i) (row_place (rows_in s)) (omega (arith, room)) (omega (arith, g, e)))

  total_kept : total_in (splice s (row_place i) w) ≡ total_in s
  unfolding total_in
  total_kept = ap (λ (n : ℕ). number (take 272 (drop (row_place n + 24) (splice s (row_place i) w)))) rows_kept ∙ ap (λ (t : List ℕ). number (take 272 t)) (after 24)

  -- the row, and then the totals with the old row's share and the new one's
  pub edited_is : (t : List ℕ) → let p = splice s (row_place i) w in t ≡ splice p (row_place (rows_in p)) (revised p (row_in s i) w) → t ≡ edited s i w
  unfolding edited revised
  edited_is t d =
      d
      ∙ (λ j. splice (splice s (row_place i) w) (row_place (rows_kept j)) (totals (recount (counts-kept j) (class_of (row_in s i)) (class_of w)) (retotal (total_kept j) (row_in s i) w)))

  -- what the totals' writer asks
  pub revisable : Undamaged s i → rows_in s ≤ most_rows → (o : List ℕ) → o ≡ row_in s i → sound w ≡ true
      → let t = splice s (row_place i) w in Sized t × (sound o ≡ true) × (sound w ≡ true) × (0 < get_or (counts_in t) (class_of o) 0) × (plus (counts_in t) ≤ most_rows)
  revisable u f o eo k =
      let d : plus (counts_in (splice s (row_place i) w)) ≡ rows_in s = ap plus counts-kept ∙ u.add_up in
      (row-length ∙ h ∙ ap size_for (sym rows_kept), rw eo u.row, k, rw (counts-kept, eo) u.counted, omega arith)
