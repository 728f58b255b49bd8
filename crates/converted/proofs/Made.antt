-- The sheets that the library made: back from one that says 3 is the one that says 1 of its rows, so forth from that is the first again. Assumes nothing.
use Rattle.std.specs.Prelude.{◌≡◌, Bool, true, ℕ, zero, suc, ◌+◌, ◌*◌, ◌%◌, ◌^◌, ◌≤◌, ◌<◌, eqb, length, get_or}
use Rattle.std.proofs.Math.Path.{refl, ap, sym}
use Rattle.std.proofs.Common.{◌∙◌, le_of_suc-le-suc, not-suc-le-zero, arith, eq-eqb, ne_eqb}
use Rattle.std.proofs.Math.Bool.{false, cond, not}
use mathlib.Core.List.{List, [], ◌∷◌, ◌++◌, map, append_assoc}
use Rattle.std.proofs.lemmas.Bool.{eqb-false}
use Rattle.std.proofs.Math.ListN.{drop, length-map}
use Rattle.std.proofs.Math.Seq.{take_at, drop_at}
use Rattle.std.specs.Float.Ieee.{of_bits}
use Rattle.laws.specs.Arithmetic.{+0}
use Rattle.total.specs.Total.{N, negative, size_of, complement, units_of}
use Rattle.ledger.specs.Bytes.{bytes, number, fields}
use Rattle.ledger.specs.Sheet.{Row, with_times, without_times, most_rows, entries, function_in, times_in, class_of, value_of, size_in, units_in, totals, count, counts, sum, flat, encode}
use Rattle.ledger.specs.Calls.{rows_in, row_in, counts_in, is_sheet, plus}
use Rattle.laws.specs.laws.Splices.{drop_past}
use Rattle.ledger.specs.laws.Fields.{length-bytes, length_fields}
use Rattle.ledger.specs.laws.Refusals.{sheet_with_times, undamaged}
use Rattle.sheet.specs.declared.Entry.{Entry}
use Rattle.sheet.specs.Edit.{row_of}
use Rattle.sheet.specs.laws.Stored.{function_row_of}
use Rattle.demands.specs.laws.Stored.{says}
use Rattle.demands.specs.Edits.{AllWorked}
use Rattle.demands.specs.laws.Rows.{Good, Rows, none, more}
use Rattle.demands.specs.laws.Encoded.{takes_edits, rows_in_lem, row_in_lem, counts_are, whole}
use Rattle.demands.specs.laws.Tally.{counts_all}
use Rattle.conversion.specs.Conversion.{Stopped, once, turned, turned_rows, turned_sheet, rejected, uncounted, stopped, stop_of, converted_of}
use Rattle.conversion.specs.laws.Rows.{held, once_small, length-turned, class-turned, sound-turned, value-turned, times-turned, turned_back}
use Rattle.conversion.specs.laws.Accepted.{Accepted, enough, converted_is}
use Rattle.converted.specs.laws.Sheets.{count_is, sound_is, class_is, oftener_is, once_is, taken_back, there_and_back}
use Rattle.converted.specs.OldSheets.{sum_once, encode_old, new_row, All, Known}

-- the row holds what a row of its sheet does
abbrev pub Held : Bool → Row → Type 0
Held forth w = times_in w ≡ held forth w

-- ---- rows turned
good_turned : (forth : Bool) (w : Row) → Good w → Good (turned forth w)
good_turned forth w g = record {
  bytes = length-turned forth w g.bytes;
  whole = sound-turned forth w g.bytes ∙ g.whole;
  times = rw (times-turned forth w g.bytes) (small (not forth));
}
  where
    small : (f : Bool) → held f (turned forth w) < 2 ^ 16
    small true = omega arith
    small false = omega (arith, once_small (turned forth w))

module _ (forth : Bool) where
  pub rows_turned : {ws : List Row} → Rows ws → Rows (map (turned forth) ws)
  rows_turned none = none
  rows_turned (more {w = w} g r) = more (good_turned forth w g) (rows_turned r)

  pub held-turned : {ws : List Row} → Rows ws → All (Held (not forth)) (map (turned forth) ws)
  held-turned none = tt
  held-turned (more {w = w} g r) = (times-turned forth w g.bytes, held-turned r)

  pub turned_again : {ws : List Row} → Rows ws → All (Held forth) ws → map (turned (not forth)) (map (turned forth) ws) ≡ ws
  turned_again none h = refl
  turned_again (more {w = w} g r) (x, xs) = λ i. turned_back forth w g.bytes x i ∷ turned_again r xs i

  -- their bytes, with others after them
  turned-flat : {ws : List Row} (t : List ℕ) → Rows ws → turned_rows forth (length ws) (flat ws ++ t) ≡ flat (map (turned forth) ws) ++ t
  unfolding turned_rows flat
  turned-flat t none = refl
  turned-flat t (more {w = w} {ws = ws} g r) =
      rw (append_assoc w (flat ws) t, take_at w (flat ws ++ t) 48 g.bytes, drop_at w (flat ws ++ t) 48 g.bytes, turned-flat t r)
      (sym (append_assoc (turned forth w) (flat (map (turned forth) ws)) t))

  -- counts and first answers are theirs still
  count-turned : {ws : List Row} (k : ℕ) → Rows ws → count k (map (turned forth) ws) ≡ count k ws
  unfolding count
  count-turned k none = refl
  count-turned k (more {w = w} g r) = rw (class-turned forth w g.bytes, count-turned k r)

  counts-turned : {ws : List Row} → Rows ws → counts (map (turned forth) ws) ≡ counts ws
  counts-turned r = rw (count-turned 0 r, count-turned 1 r, count-turned 2 r, count-turned 3 r, count-turned 4 r)

  sum-turned : {ws : List Row} → Rows ws → sum_once (map (turned forth) ws) ≡ sum_once ws
  unfolding sum_once
  sum-turned none = refl
  sum-turned (more {w = w} g r) = rw (value-turned forth w g.bytes, sum-turned r)

-- ---- a row that was driven once, or is blank, weighs its first answer once
blank_value : (w : Row) → eqb (function_in w) 0 ≡ true → value_of w ≡ +0
unfolding value_of class_of
blank_value w h = rw h

blank_size : size_of +0 ≡ 0
unfolding size_of of_bits
blank_size = refl

weight-once : (w : Row) → Held false w → units_in w ≡ units_of 1 (value_of w)
unfolding units_in units_of size_in once
weight-once w h = ap (λ (n : ℕ). complement (negative (value_of w)) n % N) (ap (λ (n : ℕ). n * size_of (value_of w)) h ∙ go (eqb (function_in w) 0) refl)
  where
    go : (b : Bool) → eqb (function_in w) 0 ≡ b → cond b 0 1 * size_of (value_of w) ≡ 1 * size_of (value_of w)
    go true e = rw (blank_value w e, blank_size) refl
    go false e = refl

sum-once : (us : List Row) → All (Held false) us → sum us ≡ sum_once us
unfolding sum sum_once
sum-once [] h = refl
sum-once (u ∷ us) (x, xs) = rw (weight-once u x, sum-once us xs)

at : (us : List Row) → All (Held false) us → (i : ℕ) → i < length us → Held false (get_or us i [])
at [] h i g = absurd (not-suc-le-zero g)
at (u ∷ us) (x, xs) zero g = x
at (u ∷ us) (x, xs) (suc i) g = at us xs i (le_of_suc-le-suc g)

-- ---- a sheet that says 3, of rows driven once
module _ (us : List Row) (r : Rows us) (few : length us ≤ most_rows) (h : All (Held false) us) where
  says_3 : is_sheet (encode us) ≡ true
  says_3 = sheet_with_times (encode us) (takes_edits us r few)

  sound-row : (i : ℕ) → i < rows_in (encode us) → rejected (encode us) i ≡ false
  unfolding rejected
  sound-row i g =
      let u = undamaged (encode us) i (whole us r few i (rw (rows_in_lem us r few) at g)) in
      rw (sound_is (encode us) says_3 i g, u.row, class_is (encode us) says_3 i g, count_is (encode us) says_3 (class_of (row_in (encode us) i)))
      (ne_eqb (get_or (counts_in (encode us)) (class_of (row_in (encode us) i)) 0) 0 (λ e. let z : ⊥ = omega (arith, u.counted) in z))

  add_up : uncounted (encode us) ≡ false
  unfolding uncounted plus
  add_up =
      rw (count_is (encode us) says_3 0, count_is (encode us) says_3 1, count_is (encode us) says_3 2, count_is (encode us) says_3 3, count_is (encode us) says_3 4, counts_are us r few, rows_in_lem us r few)
      (ap not (eq-eqb _ (length us) (omega (arith, counts_all r))))

  held_in : (i : ℕ) → i < rows_in (encode us) → Held false (row_in (encode us) i)
  held_in i g = let l : i < length us = rw (rows_in_lem us r few) at g in rw (row_in_lem us r few i l) (at us h i l)

  back_takes : Accepted false (encode us)
  back_takes = record {
    sheet = takes_edits us r few;
    rows = sound-row;
    counts = add_up;
    times = λ e i g. oftener_is (encode us) (takes_edits us r few) i g ∙ once_is (row_in (encode us) i) (held_in i g);
  }

  not_refused : (stop_of false (encode us)).refusal ≡ 0
  not_refused = ap (λ (q : Stopped). q.refusal) (enough false (encode us) back_takes)

  rest : List ℕ
  rest = 32 ∷ 48 * length us ∷ length us ∷ 2 ∷ (32 + 48 * length us) ∷ 296 ∷ 1 ∷ []

  head : (k : ℕ) → fields 4 (entries k (length us)) ≡ bytes 4 k ++ fields 4 rest
  unfolding fields entries rest
  head k = refl

  length_rest : length (fields 4 rest) ≡ 28
  unfolding rest
  length_rest = length_fields 4 rest

  parts : encode us ≡ bytes 4 with_times ++ (fields 4 rest ++ (flat us ++ totals (counts us) (sum us % N)))
  unfolding encode
  parts = ap (λ (x : List ℕ). x ++ (flat us ++ totals (counts us) (sum us % N))) (head with_times) ∙ append_assoc (bytes 4 with_times) (fields 4 rest) (flat us ++ totals (counts us) (sum us % N))

  pub back_turned : turned_sheet false (encode us) ≡ encode_old (map (turned false) us)
  unfolding turned_sheet encode_old
  back_turned =
      let T = totals (counts us) (sum us % N) in
      let Z = flat us ++ T in
      let a : drop 4 (encode us) ≡ fields 4 rest ++ Z = ap (drop 4) parts ∙ drop_at (bytes 4 with_times) (fields 4 rest ++ Z) 4 (length-bytes 4 with_times) in
      let b : drop 32 (encode us) ≡ Z = ap (drop 32) parts ∙ drop_past (bytes 4 with_times) (fields 4 rest ++ Z) 4 28 (length-bytes 4 with_times) ∙ drop_at (fields 4 rest) Z 28 length_rest in
      rw (a, b, rows_in_lem us r few, take_at (fields 4 rest) Z 28 length_rest, turned-flat false T r, length-map us (turned false), head without_times, counts-turned false r, sum-turned false r, ← sum-once us h)
      (sym (append_assoc (bytes 4 without_times) (fields 4 rest) (flat (map (turned false) us) ++ T)))

  pub made_back : converted_of false (encode us) ≡ encode_old (map (turned false) us)
  made_back = converted_is false (encode us) not_refused ∙ back_turned

  -- and forth again
  pub made_taken : stop_of true (encode_old (map (turned false) us)) ≡ stopped 0 0
  made_taken = rw (← made_back) (taken_back false (encode us) not_refused)

  pub made_again : converted_of true (encode_old (map (turned false) us)) ≡ encode us
  made_again = rw (← made_back) (there_and_back false (encode us) not_refused held_in)

-- ---- forth from the sheet of rows without times
module _ (ws : List Row) (r : Rows ws) (few : length ws ≤ most_rows) (h : All (Held true) ws) where
  few_turned : length (map (turned true) ws) ≤ most_rows
  few_turned = rw (length-map ws (turned true)) few

  pub made_forth : converted_of true (encode_old ws) ≡ encode (map (turned true) ws)
  made_forth =
      ap (λ (l : List Row). converted_of true (encode_old l)) (sym (turned_again true r h))
      ∙ made_again (map (turned true) ws) (rows_turned true r) few_turned (held-turned true r)

-- ---- entries
module _ (e : Entry) where
  blank_once : eqb e.function 0 ≡ true → Held false (new_row e)
  unfolding row_of once times_in number function_in
  blank_once h = rw h

  full_once : eqb e.function 0 ≡ false → Held false (new_row e)
  unfolding once
  full_once h =
      let k = says (record { function = e.function; a = e.a; b = e.b; c = e.c; times = 1 }) (eqb-false _ _ h) in
      k.times (omega arith) ∙ sym (ap (λ (f : ℕ). cond (eqb f 0) 0 1) k.function ∙ ap (λ (b : Bool). cond b 0 1) h)

  new_row_once : Held false (new_row e)
  new_row_once = go (eqb e.function 0) refl
    where
      go : (b : Bool) → eqb e.function 0 ≡ b → Held false (new_row e)
      go true h = blank_once h
      go false h = full_once h

pub new_worked : (es : List Entry) → All Known es → AllWorked (map new_row es)
new_worked [] h = tt
new_worked (e ∷ es) (x, xs) = (record { entry = record { function = e.function; a = e.a; b = e.b; c = e.c; times = 1 }; known = x; is = refl }, new_worked es xs)

pub new_once : (es : List Entry) → All (Held false) (map new_row es)
new_once [] = tt
new_once (e ∷ es) = (new_row_once e, new_once es)

-- a blank row that an edit stored holds no times
blank_row_lem : (e : Entry) → eqb e.function 0 ≡ true → times_in (row_of e) ≡ 0
unfolding row_of times_in number
blank_row_lem e h = rw h

pub blank_worked : (us : List Row) → AllWorked us → (i : ℕ) → i < length us → function_in (get_or us i []) ≡ 0 → times_in (get_or us i []) ≡ 0
blank_worked [] h i g z = absurd (not-suc-le-zero g)
blank_worked (u ∷ us) (x, xs) zero g z = ap times_in x.is ∙ blank_row_lem x.entry (eq-eqb _ _ (sym (function_row_of x.entry) ∙ ap function_in (sym x.is) ∙ z))
blank_worked (u ∷ us) (x, xs) (suc i) g z = blank_worked us xs i (le_of_suc-le-suc g) z
