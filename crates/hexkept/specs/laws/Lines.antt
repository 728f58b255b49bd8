-- The text of a sheet of rows: the row count, and the line of each row. Assumes nothing.
use Rattle.std.specs.Prelude.{◌≡◌, length, take, get_or}
use Rattle.std.proofs.Math.Path.{refl}
use Rattle.std.proofs.Common.{sym, ap, ◌∙◌, arith}
use Prim.Native.Nat.{ℕ, zero, suc, ◌≤◌, ◌<◌}
use mathlib.Core.List.{List, [], ◌∷◌, ◌++◌, append_assoc}
use Rattle.std.proofs.Math.Seq.{take-suc, take-length}
use borrow.Author.Tests.{lt-leb, eq-eqb}
use Rattle.text.specs.Text.{decimal}
use Rattle.ledger.specs.Sheet.{Row, most_rows, encode}
use Rattle.ledger.specs.Calls.{row_in, row_refusal, read_of, times_of}
use Rattle.ledger.specs.laws.Refusals.{sheet_with_times}
use Rattle.demands.specs.laws.Rows.{Rows}
use Rattle.demands.specs.laws.Encoded.{read_48, rows_in_lem, takes_edits, row_in_lem}
use Rattle.hexpage.specs.HexPage.{row_line, row_lines, count_line, text_of}
use Rattle.hexkept.specs.laws.Rows.{line_in, row-line}

-- each with its line end
unfoldable pub lines_of : List Row → List ℕ
lines_of [] = []
lines_of (w ∷ ws) = line_in w ++ (10 ∷ lines_of ws)

lines_more : (ws : List Row) (w : Row) → lines_of (ws ++ (w ∷ [])) ≡ lines_of ws ++ (line_in w ++ (10 ∷ []))
unfolding lines_of
lines_more [] w = refl
lines_more (v ∷ ws) w = ap (λ (s : List ℕ). line_in v ++ (10 ∷ s)) (lines_more ws w) ∙ sym (append_assoc (line_in v) (10 ∷ lines_of ws) (line_in w ++ (10 ∷ [])))

module _ (ws : List Row) (r : Rows ws) (few : length ws ≤ most_rows) where
  module _ (i : ℕ) (h : i < length ws) where
    read : row_refusal (encode ws) i ≡ 0
    unfolding row_refusal
    read = rw (sheet_with_times (encode ws) (takes_edits ws r few), rows_in_lem ws r few, lt-leb (length ws) i h) refl

    line_is : row_line (encode ws) i ≡ line_in (get_or ws i []) ++ (10 ∷ [])
    unfolding row_line read_of times_of
    line_is =
        rw (read, eq-eqb (length (row_in (encode ws) i)) 48 (read_48 (encode ws) i read), takes_edits ws r few, row_in_lem ws r few i h)
        (row-line (get_or ws i []))

  lines_are : (n : ℕ) → n ≤ length ws → row_lines (encode ws) n ≡ lines_of (take n ws)
  unfolding row_lines lines_of
  lines_are zero h = refl
  lines_are (suc n) h =
      rw (lines_are n (omega arith), line_is n h, take-suc ws n [] h) (sym (lines_more (take n ws) (get_or ws n [])))

  pub text_is : text_of (encode ws) ≡ decimal (length ws) ++ (10 ∷ lines_of ws)
  unfolding text_of count_line
  text_is =
      rw (rows_in_lem ws r few, lines_are (length ws) (omega arith), take-length ws)
      (append_assoc (decimal (length ws)) (10 ∷ []) (lines_of ws))
