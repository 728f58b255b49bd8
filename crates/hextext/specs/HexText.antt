-- Hex text read into a lent sheet (02, [10]): the row count, then a line a row, each worked out again. Definitions only.
use Rattle.std.specs.Prelude.{ℕ, zero, suc, ◌+◌, min, not, ◌&&◌, Option, Some, None, Result, Ok, Err, List, length, get_or, ltb, leb, eqb}
use Rattle.laws.specs.Ladder.{when◌gives◌else◌}
use Rattle.line.specs.Line.{spell_of}
use Rattle.answer.specs.Numbers.{number}
use Rattle.ledger.specs.Bytes.{pattern_at}
use Rattle.ledger.specs.Sheet.{withdrawn, most_rows, refusal_in}
use Rattle.ledger.specs.Calls.{blank_refusal, blank_of}
use Rattle.sheet.specs.declared.Entry.{Entry}
use Rattle.sheet.specs.Edit.{row_of, edit_refusal, edit_of}
use Rattle.hexline.specs.Parts.{part_at, next_of}
use Rattle.hexline.specs.Fields.{column_of, stop_of, value_in}
use Rattle.hextext.specs.declared.Halt.{Halt}

-- ---- where reading halts

-- the refusal, the line and the column, both from 1; 0 where there is none
pub record Halted : Type 0 where
  pub refusal : ℕ
  pub line : ℕ
  pub column : ℕ

abbrev pub halt_at : ℕ → ℕ → ℕ → Halted
halt_at refusal line column = record { refusal = refusal; line = line; column = column }

abbrev pub fine : Halted
fine = halt_at 0 0 0

-- the same of what the code says
abbrev pub halted : Halt → Halted
halted h = halt_at (number h.refusal) h.line h.column

unfoldable pub halt_of : {A : Type 0} → Result A Halt → Halted
halt_of (Ok a) = fine
halt_of (Err h) = halted h

-- ---- a row's line

-- what it enters
abbrev pub entry_of : List ℕ → Entry
entry_of l = record { function = value_in l 0; a = value_in l 1; b = value_in l 2; c = value_in l 3; times = value_in l 4 }

-- the column of the first of refusal and answers that is not the one worked out
unfoldable pub differ_of : List ℕ → Option ℕ
differ_of l =
    when not (eqb (refusal_in (row_of (entry_of l))) (value_in l 5)) gives Some (column_of l 5) else
    when not (eqb (pattern_at (row_of (entry_of l)) 32) (value_in l 6)) gives Some (column_of l 6) else
    when not (eqb (pattern_at (row_of (entry_of l)) 40) (value_in l 7)) gives Some (column_of l 7) else
    None

-- a column where the line is not taken halts it; else it goes on
unfoldable pub halts_at : ℕ → Option ℕ → Halted → Halted
halts_at k (Some column) h = halt_at 18 k column
halts_at k None h = h

-- line k: 18 where it does not read; 22 for the function that goes out; 18 where it says something else than is worked out
unfoldable pub line_halt : ℕ → List ℕ → Halted
line_halt k l =
    halts_at k (stop_of l)
    (when eqb (value_in l 0) withdrawn gives halt_at 22 k 0 else
    halts_at k (differ_of l) fine)

-- ---- the text

-- a sheet, and where reading halted
pub record Came : Type 0 where
  pub sheet : List ℕ
  pub end : Halted

abbrev pub came : List ℕ → Halted → Came
came s h = record { sheet = s; end = h }

-- one line from the place `at` of the text, into row i: an edit
unfoldable pub line_into : List ℕ → List ℕ → ℕ → ℕ → Came
line_into t s i at =
    let l = part_at 10 t at in
    when leb (length t) at gives came s (halt_at 18 (i + 2) 1) else
    when not (eqb (line_halt (i + 2) l).refusal 0) gives came s (line_halt (i + 2) l) else
    came (edit_of s i (entry_of l)) (halt_at (edit_refusal s i (value_in l 0)) (i + 2) 0)

-- what the code says of it: no place, where nothing refuses
unfoldable pub told : Came → Came
told w = came w.sheet (when eqb w.end.refusal 0 gives fine else w.end)

-- so many rows from i on; then the text must be at its end
unfoldable pub rows_into : List ℕ → ℕ → List ℕ → ℕ → ℕ → Came
rows_into t zero s i at =
    came s (when ltb at (length t) gives halt_at 18 (i + 2) 1 else fine)
rows_into t (suc k) s i at =
    when not (eqb (line_into t s i at).end.refusal 0) gives line_into t s i at else
    rows_into t k (line_into t s i at).sheet (i + 1) (next_of 10 t at)

-- the row count: decimal digits, however many, and no zero in front of others
unfoldable pub count_of : List ℕ → Option ℕ
count_of l =
    when eqb (length l) 0 gives None else
    when ltb 1 (length l) && eqb (get_or l 0 0) 48 gives None else
    spell_of 10 0 l

-- "11 as in 01"; 7 where the lent sheet has another length
unfoldable pub count_into : List ℕ → List ℕ → Option ℕ → Came
count_into t s None = came s (halt_at 18 1 1)
count_into t s (Some r) =
    when not (eqb (blank_refusal s r) 0) gives came s (halt_at (blank_refusal s r) 0 0) else
    rows_into t r (blank_of s r) 0 (next_of 10 t 0)

-- the call: after 18 or 22 in a row's line the sheet is blank but for the edits of the lines before
unfoldable pub text_into : List ℕ → List ℕ → Came
text_into t s = count_into t s (count_of (part_at 10 t 0))

-- what the code holds of a count: all above 1,024 are one
unfoldable pub capped : Option ℕ → Option ℕ
capped None = None
capped (Some n) = Some (min n (most_rows + 1))
