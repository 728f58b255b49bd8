-- An edit (01, "The leg sheet"): what is entered, the row that it is worked out to, and what the call answers and makes of the sheet's bytes. Definitions only.
use Rattle.std.specs.Prelude.{ℕ, cond, not, List, [], ◌∷◌, ltb, eqb, Result}
use Rattle.std.specs.Float.{binary64}
use Rattle.std.specs.Float.Ieee.{to_bits}
use Rattle.laws.specs.Ladder.{when◌gives◌else◌}
use Rattle.answer.specs.declared.Answer.{Answer}
use Rattle.answer.specs.declared.Refusal.{Refusal}
use Rattle.answer.specs.Answer.{refusal_of, first_of, second_of}
use Rattle.sheet.specs.Functions.{evaluate_of, used_of}
use Rattle.ledger.specs.Sheet.{Row, with_times, row_bytes, blank_row}
use Rattle.ledger.specs.Calls.{rows_in, is_sheet_of, damaged, rungs, edited}
use Rattle.sheet.specs.declared.Entry.{Entry}

-- ---- what is entered: a function's number, its arguments' bit patterns, and how often the leg was driven

-- argument k, where the function reads so many; zero in place of one that it does not
unfoldable pub keep : ℕ → ℕ → ℕ → ℕ
keep f k x = cond (ltb k (used_of f)) x 0

-- the entry without the arguments that its function does not read
unfoldable pub kept_of : Entry → Entry
kept_of e = record {
  function = e.function;
  a = keep e.function 0 e.a;
  b = keep e.function 1 e.b;
  c = keep e.function 2 e.c;
  times = e.times;
}

-- ---- its row

-- what the function answers
abbrev pub answer_of : Entry → Result Answer Refusal
answer_of e = evaluate_of e.function e.a e.b e.c

-- the function, its arguments, its times and its answer, as a row
unfoldable pub answered : Entry → Row
answered e =
    let z = answer_of e in
    row_bytes e.function (refusal_of z) e.times (e.a ∷ e.b ∷ e.c ∷ to_bits binary64 (first_of z) ∷ to_bits binary64 (second_of z) ∷ [])

-- the row that an edit stores: a blank row has times 0, whatever the edit gave
unfoldable pub row_of : Entry → Row
row_of e =
    when eqb e.function 0 gives blank_row else
    answered (kept_of e)

-- ---- the call

-- "Order for an edit: 7, 8, 9, 10.", with 22 after 8; 7 also for a sheet without times, which is only read
unfoldable pub edit_refusal : List ℕ → ℕ → ℕ → ℕ
edit_refusal s i f =
    when not (is_sheet_of with_times s) gives 7 else
    rungs (rows_in s) i f (when damaged s i gives 10 else 0)

-- the entry's row stored; a refused edit changes no byte
unfoldable pub edit_of : List ℕ → ℕ → Entry → List ℕ
edit_of s i e = when eqb (edit_refusal s i e.function) 0 gives edited s i (row_of e) else s
