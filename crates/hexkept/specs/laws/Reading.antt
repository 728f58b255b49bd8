-- Each line of the text is an edit of a row that was blank, so the rows come back one by one. Assumes nothing.
use Rattle.std.specs.Prelude.{◌≡◌, ℕ, suc, ◌+◌, ◌^◌, ◌≤◌, ◌<◌, Bool, true, false, cond, ◌&&◌, get_or, set, ltb, eqb}
use Rattle.std.proofs.Math.Path.{refl}
use Rattle.std.proofs.Common.{sym, ap, ◌∙◌, arith, lit≤}
use mathlib.Core.List.{List, [], ◌∷◌, ◌++◌, append-nil}
use Rattle.std.proofs.Math.ListN.{length, length-append}
use Rattle.std.proofs.lemmas.List.{length-replicate}
use Rattle.std.proofs.Math.Seq.{set-append_seam, append_snoc}
use borrow.Author.Tests.{le-ltb, lt-leb, eq-eqb, ne_eqb}
use Rattle.answer.specs.Numbers.{last}
use Rattle.text.specs.Text.{decimal}
use Rattle.std.specs.Prelude.{Option, Some, None}
use Rattle.line.specs.Line.{spell_of, decimal_of}
use Rattle.ledger.specs.Bytes.{pattern_at}
use Rattle.ledger.specs.Sheet.{Row, withdrawn, most_rows, size_for, blank_row, function_in, refusal_in, encode}
use Rattle.ledger.specs.Calls.{rungs, blank_refusal, blank_of}
use Rattle.sheet.specs.declared.Entry.{Entry}
use Rattle.sheet.specs.Edit.{row_of, edit_refusal, edit_of}
use Rattle.sheet.specs.laws.Stored.{length_row_of, function_row_of, sound_row_of}
use Rattle.demands.specs.Edits.{blanks}
use Rattle.demands.specs.laws.Stored.{times_row_of}
use Rattle.demands.specs.laws.Rows.{Good, Rows, none, more}
use Rattle.demands.specs.laws.Encoded.{answers, edit_rows}
use Rattle.demands.proofs.Runs.{rows_worked, blanks-worked}
use Rattle.hexfloat.specs.Reading.{before}
use Rattle.hexline.specs.Parts.{part_at, next_of}
use Rattle.hexline.specs.Fields.{value_in}
use Rattle.spelt.specs.laws.Digits.{read-decimal}
use Rattle.spelt.specs.laws.Fractions.{Without}
use Rattle.hextext.specs.HexText.{halt_at, fine, entry_of, differ_of, halts_at, line_halt, came, line_into, rows_into, count_of, count_into, text_into}
use Rattle.hexkept.specs.Entered.{Fits, Entered, AllEntered}
use Rattle.hexkept.specs.laws.Parts.{part_there, next_there, past}
use Rattle.hexkept.specs.laws.Plain.{without-second, plain-decimal}
use Rattle.hexkept.specs.laws.Line.{no_end, line_stops, line_says}
use Rattle.hexkept.specs.laws.Rows.{others_in, line_in, entry_in, row_read, row_again}
use Rattle.hexkept.specs.laws.Lines.{lines_of}

-- ---- the line of a row
module _ (e : Entry) (F : Fits e) (known : e.function ≤ last) (stays : e.function ≡ withdrawn → ⊥) where
  abbrev row : Row
  row = row_of e

  abbrev line : List ℕ
  line = line_in row

  says : (k : ℕ) → k ≤ 7 → value_in line k ≡ get_or (function_in row ∷ others_in row) k 0
  says = line_says (function_in row) (others_in row) refl (row_read e known)

  entry_is : entry_of line ≡ entry_in row
  entry_is = λ i. record {
    function = says 0 (lit≤ tt) i;
    a = says 1 (lit≤ tt) i;
    b = says 2 (lit≤ tt) i;
    c = says 3 (lit≤ tt) i;
    times = says 4 (lit≤ tt) i;
  }

  row_is : row_of (entry_of line) ≡ row
  row_is = ap row_of entry_is ∙ row_again e F

  agrees : differ_of line ≡ None
  unfolding differ_of
  agrees =
      rw (
        row_is,
        says 5 (lit≤ tt),
        says 6 (lit≤ tt),
        says 7 (lit≤ tt),
        eq-eqb (refusal_in row) (refusal_in row) refl,
        eq-eqb (pattern_at row 32) (pattern_at row 32) refl,
        eq-eqb (pattern_at row 40) (pattern_at row 40) refl,
      )
      refl

  function_is : value_in line 0 ≡ e.function
  function_is = says 0 (lit≤ tt) ∙ function_row_of e

  halts_not : (k : ℕ) → line_halt k line ≡ fine
  unfolding line_halt halts_at
  halts_not k =
      rw (line_stops (function_in row) (others_in row) refl (row_read e known), function_is, ne_eqb e.function withdrawn stays, agrees) refl

  good : Good row
  good = record { bytes = length_row_of e; whole = sound_row_of e known; times = times_row_of e }

  -- behind x in the text, for row i of the sheet of the rows vs
  module _ (vs : List Row) (r : Rows vs) (few : length vs ≤ most_rows) (i : ℕ) (h : i < length vs) (x rest : List ℕ) where
    abbrev text : List ℕ
    text = x ++ (line ++ (10 ∷ rest))

    accepts : edit_refusal (encode vs) i (value_in line 0) ≡ 0
    unfolding rungs
    accepts =
        answers vs r few (record { row = i; entry = entry_of line })
        ∙ rw (lt-leb (length vs) i h, function_is, ne_eqb e.function withdrawn stays, le-ltb last e.function known) refl

    edits : edit_of (encode vs) i (entry_of line) ≡ encode (set vs i row)
    unfolding edit_of
    edits = rw (accepts, row_is) (edit_rows vs r few i row h good)

    line_into_lem : line_into text (encode vs) i (length x) ≡ came (encode (set vs i row)) (halt_at 0 (i + 2) 0)
    unfolding line_into before
    line_into_lem =
        let there : part_at 10 text (length x) ≡ line = part_there 10 x line (10 ∷ rest) (no_end (function_in row) (others_in row)) refl in
        let room : length x < length text = simp length-append (omega arith) in
        rw (there, lt-leb (length text) (length x) room, halts_not (i + 2), edits, accepts) refl

-- ---- the lines of rows

good_entered : (w : Row) → Entered w → Good w
good_entered w E = rw E.is (good E.entry E.fits E.known E.stays)

pub rows_entered : (ws : List Row) → AllEntered ws → Rows ws
rows_entered [] E = none
rows_entered (w ∷ ws) (E, Es) = more (good_entered w E) (rows_entered ws Es)

rows_both : {vs ws : List Row} → Rows vs → Rows ws → Rows (vs ++ ws)
rows_both none s = s
rows_both (more g r) s = more g (rows_both r s)

-- the rows ds came before, and blank rows stand where the others will: one line more
module _ (ds : List Row) (r : Rows ds) (k : ℕ) (few : length ds + suc k ≤ most_rows) (w : Row) (E : Entered w) (x rest : List ℕ) where
  abbrev standing : List Row
  standing = ds ++ (blank_row ∷ blanks k)

  standing_rows : Rows standing
  standing_rows = rows_both r (rows_worked (blanks (suc k)) (blanks-worked (suc k)))

  standing-length : length standing ≡ length ds + suc k
  standing-length = length-append ds (blank_row ∷ blanks k) ∙ ap (λ (n : ℕ). length ds + suc n) (length-replicate k blank_row)

  row_into : line_into (x ++ (line_in w ++ (10 ∷ rest))) (encode standing) (length ds) (length x) ≡ came (encode (ds ++ (w ∷ blanks k))) (halt_at 0 (length ds + 2) 0)
  row_into =
      rw E.is
      (line_into_lem E.entry E.fits E.known E.stays standing standing_rows (omega (arith, standing-length)) (length ds) (omega (arith, standing-length)) x rest
      ∙ ap (λ (ws : List Row). came (encode ws) (halt_at 0 (length ds + 2) 0)) (set-append_seam ds blank_row (blanks k) (row_of E.entry)))

row_next : (w : Row) (x rest : List ℕ) → next_of 10 (x ++ (line_in w ++ (10 ∷ rest))) (length x) ≡ length (x ++ (line_in w ++ (10 ∷ [])))
unfolding before
row_next w x rest = next_there 10 x (line_in w) (10 ∷ rest) (no_end (function_in w) (others_in w)) refl

-- and all
rows_into_lem : (t : List ℕ) (ws : List Row) → AllEntered ws → (ds : List Row) → Rows ds → length ds + length ws ≤ most_rows → (x : List ℕ) → t ≡ x ++ lines_of ws
    → rows_into t (length ws) (encode (ds ++ blanks (length ws))) (length ds) (length x) ≡ came (encode (ds ++ ws)) fine
unfolding rows_into lines_of
rows_into_lem t [] E ds r few x is = rw (is, append-nil x, le-ltb (length x) (length x) (omega arith)) refl
rows_into_lem t (w ∷ ws) (E, Es) ds r few x is =
    let k : ℕ = length ws in
    let into = ap (λ (s : List ℕ). line_into s (encode (ds ++ (blank_row ∷ blanks k))) (length ds) (length x)) is ∙ row_into ds r k few w E x (lines_of ws) in
    let next = ap (λ (s : List ℕ). next_of 10 s (length x)) is ∙ row_next w x (lines_of ws) in
    let one : length ds + 1 ≡ length (ds ++ (w ∷ [])) = sym (length-append ds (w ∷ [])) in
    rw (into, next, one, ← append_snoc ds w (blanks k), ← append_snoc ds w ws)
    (rows_into_lem t ws Es (ds ++ (w ∷ [])) (rows_both r (more (good_entered w E) none)) (omega arith) (x ++ (line_in w ++ (10 ∷ []))) (is ∙ past 10 x (line_in w) (lines_of ws)))

-- ---- the row count

-- what is read as a number of ten digits is read as a count
count-read : (n : ℕ) → n < 10 ^ 10 → count_of (decimal n) ≡ Some n
unfolding count_of decimal_of
count-read n h = by (eqb (length (decimal n)) 0) (ltb 10 (length (decimal n))) (read-decimal n h) where
  rest : Option ℕ
  rest = cond (ltb 1 (length (decimal n)) && eqb (get_or (decimal n) 0 0) 48) None (spell_of 10 0 (decimal n))

  by : (p q : Bool) → cond p None (cond q None rest) ≡ Some n → cond p None rest ≡ Some n
  by true q e = e
  by false true e = let z : ◌≡◌ {A = ℕ} 0 1 = cc in absurd (omega arith)
  by false false e = e

-- ---- the text

module _ (ws : List Row) (E : AllEntered ws) (few : length ws ≤ most_rows) (lent : List ℕ) (size : length lent ≡ size_for (length ws)) where
  abbrev whole : List ℕ
  whole = decimal (length ws) ++ (10 ∷ lines_of ws)

  count-plain : Without 10 10 (decimal (length ws))
  count-plain = without-second 44 10 (decimal (length ws)) (plain-decimal (length ws))

  count_part : part_at 10 whole 0 ≡ decimal (length ws)
  unfolding before
  count_part = part_there 10 [] (decimal (length ws)) (10 ∷ lines_of ws) count-plain refl

  count_next : next_of 10 whole 0 ≡ length (decimal (length ws) ++ (10 ∷ []))
  unfolding before
  count_next = next_there 10 [] (decimal (length ws)) (10 ∷ lines_of ws) count-plain refl

  made : blank_refusal lent (length ws) ≡ 0
  unfolding blank_refusal
  made = rw (le-ltb most_rows (length ws) few, eq-eqb (length lent) (size_for (length ws)) size) refl

  pub text_into_lem : text_into whole lent ≡ came (encode ws) fine
  unfolding text_into count_into blank_of
  text_into_lem =
      rw (count_part, count-read (length ws) (omega arith), made, count_next)
      (rows_into_lem whole ws E [] none (omega arith) (decimal (length ws) ++ (10 ∷ [])) (past 10 [] (decimal (length ws)) (lines_of ws)))
