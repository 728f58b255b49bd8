-- The sheet of rows: what stands in it, and what an edit makes of it. Assumes nothing.
use Rattle.std.proofs.Math.Path.{◌≡◌, refl, ap, sym}
use Rattle.std.proofs.Common.{◌∙◌, mod-lt, add-zero, arith, length-set, drop_of_length-le, take_at, drop_at, take_all}
use Rattle.std.specs.Prelude.{Bool, cond, ℕ, zero, suc, ◌+◌, ◌*◌, ◌%◌, ◌≤◌, ◌<◌, take, get_or, set}
use Rattle.std.proofs.Math.Bool.{true, false}
use mathlib.Core.List.{List, [], ◌∷◌, ◌++◌, append_assoc, append-nil}
use Rattle.std.proofs.Math.Nat.{add_assoc}
use borrow.Author.Tests.{eq-eqb, ne_eqb, le-leb, leb-false}
use Rattle.std.proofs.Math.Dec.{leb}
use Rattle.std.proofs.Math.ListN.{length, drop, length-append}
use Rattle.total.specs.Total.{N}
use Rattle.total.specs.laws.Limbs.{N-pos}
use Rattle.laws.specs.Splice.{splice}
use Rattle.ledger.specs.Bytes.{bytes, number, fields, read}
use Rattle.ledger.specs.Sheet.{Row, with_times, row_place, size_for, entries, class_of, totals, count, counts, sum, flat, encode}
use Rattle.ledger.specs.Calls.{rows_in, row_in, counts_in, total_in, equal, is_sheet_of, is_sheet, miscounted, damaged, function_rungs, rungs, row_refusal, total_refusal, revised, edited}
use Rattle.sheet.specs.Edit.{edit_refusal}
use Rattle.laws.specs.laws.Splices.{take_past, drop_past}
use Rattle.ledger.specs.laws.Fields.{length-bytes, length_fields, number-bytes, fields-append}
use Rattle.ledger.specs.laws.Refusals.{class-lt, length-row, length-totals, readable, sheet_length}
use Rattle.demands.specs.laws.Numbers.{read-fields, rows_of}
use Rattle.demands.specs.Edits.{Edit, answer, answer_in}
use Rattle.demands.specs.laws.Rows.{Good, Rows, rows_set, rows_sound, length-flat, row-flat, splice-flat}
use Rattle.demands.specs.laws.Tally.{hit_self, count_has, count-le, counts_all, counts-at, counts-set, sum_moved}

-- a row that can be read has 48 bytes
pub read_48 : (s : List ℕ) (i : ℕ) → row_refusal s i ≡ 0 → length (row_in s i) ≡ 48
read_48 s i h = let k = readable s i h in length-row s (sheet_length s k.0) i k.1

-- ---- contents
eight : (r : ℕ) → length (entries with_times r) ≡ 8
unfolding entries
eight r = refl

length-contents : (r : ℕ) → length (fields 4 (entries with_times r)) ≡ 32
length-contents r = length_fields 4 (entries with_times r) ∙ ap (λ (n : ℕ). 4 * n) (eight r)

entries_small : (r : ℕ) → r ≤ 1024 → (i : ℕ) → get_or (entries with_times r) i 0 < 4294967296
unfolding entries
entries_small r h zero = omega arith
entries_small r h (suc zero) = omega arith
entries_small r h (suc (suc zero)) = omega arith
entries_small r h (suc (suc (suc zero))) = omega arith
entries_small r h (suc (suc (suc (suc zero)))) = omega arith
entries_small r h (suc (suc (suc (suc (suc zero))))) = omega arith
entries_small r h (suc (suc (suc (suc (suc (suc zero)))))) = omega arith
entries_small r h (suc (suc (suc (suc (suc (suc (suc zero))))))) = omega arith
entries_small r h (suc (suc (suc (suc (suc (suc (suc (suc i)))))))) = omega arith

equal_self : (xs : List ℕ) → equal xs xs ≡ true
unfolding equal
equal_self [] = refl
equal_self (x ∷ xs) = rw (eq-eqb x x refl) (equal_self xs)

-- ---- totals
total_in_lem : (cs : List ℕ) (t : ℕ) → length cs ≡ 5 → t < N → number (take 272 (drop 24 (totals cs t))) ≡ t
unfolding totals N
total_in_lem cs t e h =
    let F = fields 4 (cs ++ (0 ∷ [])) in
    let l : length F ≡ 24 = rw (length_fields, length-append, e) refl in
    rw (drop_at F (bytes 272 t) 24 l, take_all 272 (bytes 272 t) (omega (arith, length-bytes 272 t))) (number-bytes 272 t h)

counts_in_lem : (cs : List ℕ) (t : ℕ) → ((i : ℕ) → get_or cs i 0 < 4294967296) → read 4 (length cs) (totals cs t) ≡ cs
unfolding totals
counts_in_lem cs t h =
    rw (fields-append 4 cs (0 ∷ []), append_assoc (fields 4 cs) (fields 4 (0 ∷ [])) (bytes 272 t)) (read-fields 4 cs (fields 4 (0 ∷ []) ++ bytes 272 t) h)

counts_small : (ws : List Row) → length ws ≤ 1024 → (i : ℕ) → get_or (counts ws) i 0 < 4294967296
counts_small ws h zero = omega (arith, count-le 0 ws)
counts_small ws h (suc zero) = omega (arith, count-le 1 ws)
counts_small ws h (suc (suc zero)) = omega (arith, count-le 2 ws)
counts_small ws h (suc (suc (suc zero))) = omega (arith, count-le 3 ws)
counts_small ws h (suc (suc (suc (suc zero)))) = omega (arith, count-le 4 ws)
counts_small ws h (suc (suc (suc (suc (suc i))))) = omega arith

splice-end : (H F T U : List ℕ) (n : ℕ) → length H ≡ 32 → length F ≡ n → length T ≡ 296 → length U ≡ 296 → splice (H ++ (F ++ T)) (32 + n) U ≡ H ++ (F ++ U)
splice-end H F T U n a b t u =
    let k : take (32 + n) (H ++ (F ++ T)) ≡ H ++ F = rw (take_past H (F ++ T) 32 n a, take_at F T n b) in
    let d : drop (32 + n + length U) (H ++ (F ++ T)) ≡ [] =
    drop_of_length-le (H ++ (F ++ T)) {i = 32 + n + length U} (simp (length-append) (omega arith)) in
    rw (k, d, append-nil) (append_assoc H F U)

module _ (ws : List Row) (r : Rows ws) (few : length ws ≤ 1024) where
  pub length-encode : length (encode ws) ≡ size_for (length ws)
  unfolding encode
  length-encode = rw (length-append, length-append, length-contents (length ws), length-flat r, length-totals (counts ws) (sum ws % N) refl) (omega arith)

  pub rows_in_lem : rows_in (encode ws) ≡ length ws
  rows_in_lem = rows_of (encode ws) (length ws) length-encode

  contents_in : read 4 8 (encode ws) ≡ entries with_times (length ws)
  unfolding encode
  contents_in = ap (λ (k : ℕ). read 4 k (fields 4 (entries with_times (length ws)) ++ (flat ws ++ totals (counts ws) (sum ws % N)))) (sym (eight (length ws))) ∙ read-fields 4 (entries with_times (length ws)) (flat ws ++ totals (counts ws) (sum ws % N)) (entries_small (length ws) few)

  pub takes_edits : is_sheet_of with_times (encode ws) ≡ true
  unfolding is_sheet_of
  takes_edits =
      rw (rows_in_lem, length-encode, eq-eqb (size_for (length ws)) (size_for (length ws)) refl, le-leb (length ws) 1024 few, contents_in) (equal_self (entries with_times (length ws)))

  is_sheet_lem : is_sheet (encode ws) ≡ true
  unfolding is_sheet
  is_sheet_lem = rw takes_edits

  pub given : total_refusal (encode ws) ≡ 0
  unfolding total_refusal
  given = rw is_sheet_lem

  pub row_in_lem : (i : ℕ) → i < length ws → row_in (encode ws) i ≡ get_or ws i []
  unfolding row_in encode
  row_in_lem i h = rw (drop_past (fields 4 (entries with_times (length ws))) (flat ws ++ totals (counts ws) (sum ws % N)) 32 (48 * i) (length-contents (length ws))) (row-flat r i (totals (counts ws) (sum ws % N)) h)

  at_totals : (k : ℕ) → drop (row_place (length ws) + k) (encode ws) ≡ drop k (totals (counts ws) (sum ws % N))
  unfolding encode
  at_totals k =
      rw (add_assoc 32 (48 * length ws) k, drop_past (fields 4 (entries with_times (length ws))) (flat ws ++ totals (counts ws) (sum ws % N)) 32 (48 * length ws + k) (length-contents (length ws)))
      (drop_past (flat ws) (totals (counts ws) (sum ws % N)) (48 * length ws) k (length-flat r))

  pub counts_are : counts_in (encode ws) ≡ counts ws
  unfolding counts_in
  counts_are =
      ap (λ (k : ℕ). read 4 5 (drop k (encode ws))) (ap (λ (m : ℕ). row_place m) rows_in_lem ∙ sym (add-zero (row_place (length ws))))
      ∙ ap (read 4 5) (at_totals 0)
      ∙ counts_in_lem (counts ws) (sum ws % N) (counts_small ws few)

  pub total_is : total_in (encode ws) ≡ sum ws % N
  unfolding total_in
  total_is = rw (rows_in_lem, at_totals 24) (total_in_lem (counts ws) (sum ws % N) refl (mod-lt (sum ws) N-pos))

  pub whole : (i : ℕ) → i < length ws → damaged (encode ws) i ≡ false
  unfolding damaged miscounted
  whole i h =
      let s = rows_sound r i h in
      let k = class_of (get_or ws i []) in
      rw (row_in_lem i h, counts_are, rows_in_lem, s, counts_all r, eq-eqb (length ws) (length ws) refl, counts-at ws k (class-lt (get_or ws i []) s))
      (ne_eqb (count k ws) 0 (λ e. omega (arith, count_has k ws i h, hit_self k)))

  pub answers : (e : Edit) → answer (encode ws) e ≡ answer_in (length ws) e
  unfolding edit_refusal rungs
  answers e = rw (takes_edits, rows_in_lem) (go (leb (length ws) e.row) refl)
    where
      go : (b : Bool) → leb (length ws) e.row ≡ b
          → ◌≡◌ {A = ℕ} (cond b 8 (function_rungs e.entry.function (cond (damaged (encode ws) e.row) 10 0))) (cond b 8 (function_rungs e.entry.function 0))
      go true h = refl
      go false h = rw (whole e.row (leb-false (length ws) e.row h))

  module _ (i : ℕ) (w : Row) (h : i < length ws) (g : Good w) where
    lw : length w ≡ 48
    lw = g.bytes

    row_spliced : splice (encode ws) (row_place i) w ≡ fields 4 (entries with_times (length ws)) ++ (flat (set ws i w) ++ totals (counts ws) (sum ws % N))
    unfolding encode
    row_spliced =
        let K = fields 4 (entries with_times (length ws)) in
        let X = flat ws ++ totals (counts ws) (sum ws % N) in
        rw (lw, add_assoc 32 (48 * i) 48, take_past K X 32 (48 * i) (length-contents (length ws)), drop_past K X 32 (48 * i + 48) (length-contents (length ws)))
        (append_assoc K (take (48 * i) X) (w ++ drop (48 * i + 48) X) ∙ ap (λ (z : List ℕ). K ++ z) (splice-flat r i w (totals (counts ws) (sum ws % N)) h lw))

    encode-set : fields 4 (entries with_times (length ws)) ++ (flat (set ws i w) ++ totals (counts (set ws i w)) (sum (set ws i w) % N)) ≡ encode (set ws i w)
    unfolding encode
    encode-set = rw (length-set ws i w)

    totals_new : revised (encode ws) (row_in (encode ws) i) w ≡ totals (counts (set ws i w)) (sum (set ws i w) % N)
    unfolding revised
    totals_new =
        rw (counts_are, total_is, row_in_lem i h)
        (λ j. totals (counts-set ws i w h (class-lt (get_or ws i []) (rows_sound r i h)) (class-lt w g.whole) j) (sum_moved ws i w h j))

    pub edit_rows : edited (encode ws) i w ≡ encode (set ws i w)
    unfolding edited
    edit_rows =
        let F : length (flat (set ws i w)) ≡ 48 * length ws = length-flat (rows_set r i w g) ∙ ap (λ (k : ℕ). 48 * k) (length-set ws i w) in
        rw (
          totals_new,
          rows_in_lem,
          row_spliced,
          splice-end (fields 4 (entries with_times (length ws))) (flat (set ws i w)) (totals (counts ws) (sum ws % N)) (totals (counts (set ws i w)) (sum (set ws i w) % N)) (48 * length ws) (length-contents (length ws)) F
              (length-totals (counts ws) (sum ws % N) refl) (length-totals (counts (set ws i w)) (sum (set ws i w) % N) refl),
        )
        encode-set
