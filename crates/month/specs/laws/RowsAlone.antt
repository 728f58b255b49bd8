-- A FUNCTION OF THE ROWS ALONE (02, [2]). The last 296 bytes of a file, its counts and its total, play no part: with any others in their place the report is the same.
-- Assumes nothing.
use Rattle.std.specs.Prelude.{◌≡◌, ℕ, zero, suc, ◌+◌, ◌-◌, ◌*◌, ◌/◌, ◌<◌, ◌≤◌, Bool, true, false, cond, not, ◌&&◌, ◌||◌, List, ◌∷◌, ◌++◌, length, take, drop, ◌==◌, nat_le, nat_lt, Ok, Err}
use Rattle.std.proofs.Math.Path.{refl, sym, ap}
use Rattle.std.proofs.Common.{◌∙◌, subst, arith, ne_eqb, length-append}
use Rattle.std.proofs.Math.Logic.{inl, inr}
use Rattle.std.proofs.Math.ListN.{length-drop}
use Rattle.std.proofs.Math.Seq.{take-append-le}
use Rattle.std.proofs.lemmas.List.{drop-append-le}
use Rattle.std.specs.Result.{is_ok}
use Rattle.laws.specs.laws.Flags.{lt-or-le}
use Rattle.ledger.specs.Bytes.{number, read}
use Rattle.ledger.specs.Sheet.{most_rows, row_place, size_for, with_times, without_times, entries, function_in, times_in, sound}
use Rattle.ledger.specs.Calls.{rows_in, row_in, equal, is_sheet_of, is_sheet, row_refusal, row_rungs, times_of}
use Rattle.inspection.specs.Rows.{sound_row, first_from, first_rejected}
use Rattle.month.specs.declared.parts.Report.{Report}
use Rattle.month.specs.declared.parts.Stop.TheVariants.{NotASheet, Damaged}
use Rattle.month.specs.Month.{leg_at, legs_from, legs_of, legs_on, sheet_on, stop_of, added_of}

-- ---- files that agree in their first word, how many rows they have, and each row

record Agree (s t : List ℕ) : Type 0 where
  rows : rows_in s ≡ rows_in t
  kind : (k : ℕ) → is_sheet_of k s ≡ is_sheet_of k t
  row : (i : ℕ) → i < rows_in s → row_in s i ≡ row_in t i

first-same : (f g : ℕ → Bool) (i n : ℕ) → ((j : ℕ) → j < i + n → f j ≡ g j) → first_from f i n ≡ first_from g i n
unfolding first_from
first-same f g i zero h = refl
first-same f g i (suc n) h = λ j. cond (h i (omega arith) j) i (first-same f g (suc i) n (λ k l. h k (omega arith)) j)

module _ (s t : List ℕ) (a : Agree s t) where
  sheet_same : is_sheet s ≡ is_sheet t
  unfolding is_sheet
  sheet_same = λ j. a.kind with_times j || a.kind without_times j

  refusal_same : (i : ℕ) → row_refusal s i ≡ row_refusal t i
  unfolding row_refusal
  refusal_same i = λ j. row_rungs (sheet_same j) (a.rows j) i

  sound-same : (i : ℕ) → i < rows_in s → sound_row s i ≡ sound_row t i
  unfolding sound_row
  sound-same i h = λ j. cond (refusal_same i j == 0) (sound (a.row i h j)) false

  rejected-same : first_rejected s ≡ first_rejected t
  unfolding first_rejected
  rejected-same =
      ap (λ (n : ℕ). cond (is_sheet s) n 0)
      (first-same (λ (i : ℕ). not (sound_row s i)) (λ (i : ℕ). not (sound_row t i)) 0 (rows_in s) (λ i h. ap not (sound-same i (omega arith))))
      ∙ (λ j. cond (sheet_same j) (first_from (λ (i : ℕ). not (sound_row t i)) 0 (a.rows j)) 0)

  stop-same : stop_of s ≡ stop_of t
  unfolding stop_of
  stop-same = λ j. cond (not (sheet_same j)) (Err NotASheet) (cond (nat_lt (rejected-same j) (a.rows j)) (Err (Damaged (rejected-same j))) (Ok tt))

  times-same : (i : ℕ) → i < rows_in s → times_of s i ≡ times_of t i
  unfolding times_of
  times-same i h =
      let never : ℕ = 0 in
      let once : ℕ = 1 in
      (λ j. cond (not (refusal_same i j == 0)) never (cond (a.kind with_times j) (times_in (a.row i h j)) (cond (function_in (a.row i h j) == 0) never once)))

  leg_same : (n i : ℕ) → i < rows_in s → leg_at n s i ≡ leg_at n t i
  unfolding leg_at
  leg_same n i h = λ j. record { sheet = n; row = i; times = times-same i h j; bytes = a.row i h j }

  from_same : (n i k : ℕ) → i + k ≤ rows_in s → legs_from n s i k ≡ legs_from n t i k
  unfolding legs_from
  from_same n i zero h = refl
  from_same n i (suc k) h = λ j. leg_same n i (omega arith) j ∷ from_same n (suc i) k (omega arith) j

  legs_same : (n : ℕ) → legs_of n s ≡ legs_of n t
  unfolding legs_of
  legs_same n = from_same n 0 (rows_in s) (omega arith) ∙ ap (legs_from n t 0) a.rows

  added_same : (r : Report) (n : ℕ) → added_of r n s ≡ added_of r n t
  unfolding added_of
  added_same r n = λ j. cond (is_ok (stop-same j)) (legs_on (sheet_on r) (legs_same n j)) r

-- ---- and agree where only the totals differ

read_head : (w n : ℕ) (h u : List ℕ) → w * n ≤ length h → read w n (h ++ u) ≡ read w n h
unfolding read
read_head w zero h u l = refl
read_head w (suc n) h u l =
    let a : w ≤ length h = omega arith in
    rw (take-append-le w h u a, drop-append-le w h u a) (ap (λ (z : List ℕ). number (take w h) ∷ z) (read_head w n (drop w h) u (omega (arith, length-drop w h))))

not_sheet : (k : ℕ) (s : List ℕ) → length s < 328 → is_sheet_of k s ≡ false
unfolding is_sheet_of
not_sheet k s h = go (nat_le (rows_in s) most_rows) (length s == size_for (rows_in s)) (equal (read 4 8 s) (entries k (rows_in s))) (ne_eqb (length s) (size_for (rows_in s)) (λ e. omega arith))
  where
    go : (p q r : Bool) → q ≡ false → (p && (q && r)) ≡ false
    go true q r e = rw e refl
    go false q r e = refl

module _ (h u v : List ℕ) (lu : length u ≡ 296) (lv : length v ≡ 296) where
  size : (x : List ℕ) → length x ≡ 296 → length (h ++ x) ≡ length h + 296
  size x l = length-append h x ∙ ap (λ (n : ℕ). length h + n) l

  row_head : (x : List ℕ) → length x ≡ 296 → (i : ℕ) → i < rows_in (h ++ x) → row_in (h ++ x) i ≡ row_in h i
  unfolding row_in rows_in
  row_head x l i g =
      let a : row_place i + 48 ≤ length h = omega (arith, size x l) in
      rw (drop-append-le (row_place i) h x (omega arith), take-append-le 48 (drop (row_place i) h) x (omega (arith, length-drop (row_place i) h))) refl

  same_rows : rows_in (h ++ u) ≡ rows_in (h ++ v)
  unfolding rows_in
  same_rows = ap (λ (n : ℕ). (n - 328) / 48) (size u lu ∙ sym (size v lv))

  same_kind : (k : ℕ) → is_sheet_of k (h ++ u) ≡ is_sheet_of k (h ++ v)
  unfolding is_sheet_of
  same_kind k = elim (lt-or-le (length h) 32) [
    | inl l ↦ not_sheet k (h ++ u) (omega (arith, size u lu)) ∙ sym (not_sheet k (h ++ v) (omega (arith, size v lv)))
    | inr l ↦
        λ j. nat_le (same_rows j) most_rows && ((size u lu ∙ sym (size v lv)) j == size_for (same_rows j) && equal ((read_head 4 8 h u (omega arith) ∙ sym (read_head 4 8 h v (omega arith))) j) (entries k (same_rows j)))
  ]

  agree : Agree (h ++ u) (h ++ v)
  agree = record { rows = same_rows; kind = same_kind; row = λ i g. row_head u lu i g ∙ sym (row_head v lv i (subst (λ (n : ℕ). i < n) same_rows g)) }

  pub rows_alone : (r : Report) (n : ℕ) → added_of r n (h ++ u) ≡ added_of r n (h ++ v)
  rows_alone r n = added_same (h ++ u) (h ++ v) agree r n

  pub stops_alone : stop_of (h ++ u) ≡ stop_of (h ++ v)
  stops_alone = stop-same (h ++ u) (h ++ v) agree
