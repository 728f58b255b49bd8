-- The run as a whole: from the input's bytes to the output's (01, "The program reads standard input"). Definitions only.
use Rattle.std.specs.Prelude.{ℕ, suc, Option, Some, None, List, [], ◌∷◌, ◌++◌, replicate, nat_eq, nat_lt}
use Rattle.laws.specs.Ladder.{when◌gives◌else◌}
use Rattle.line.specs.declared.Edit.{Edit}
use Rattle.line.specs.Line.{decimal_of, cut, line_of}
use Rattle.ledger.specs.Sheet.{size_for, most_rows}
use Rattle.ledger.specs.Calls.{blank_refusal, blank_of}
use Rattle.sheet.specs.Edit.{edit_refusal, edit_of}
use Rattle.sheet.specs.declared.Entry.{Entry}
use Rattle.page.specs.Page.{page_of}
use Rattle.ending.specs.Outcome.{Outcome, Start, Sheet, Bad, printed}

-- an input that is read in parts
unfoldable pub joined : List (List ℕ) → List ℕ
joined [] = []
joined (p ∷ ps) = p ++ joined ps

-- a line end ends a line; bytes after the last line end are a line too
unfoldable pub lines_of : List ℕ → List (List ℕ)
lines_of input = cut 10 [] input

unfoldable pub zeros : ℕ → List ℕ
zeros n = replicate n 0

-- the row count: a blank sheet, made in zeros; line 1 is bad where there is no number or the call is refused
unfoldable pub count_on : Option ℕ → Outcome
count_on None = Bad 1
count_on (Some r) =
    when nat_lt most_rows r gives Bad 1 else
    when nat_eq (blank_refusal (zeros (size_for r)) r) 0 gives Sheet (blank_of (zeros (size_for r)) r) else
    Bad 1

-- what an edit's line enters
abbrev pub entry : ℕ → ℕ → ℕ → ℕ → ℕ → Entry
entry f a b c times = record { function = f; a = a; b = b; c = c; times = times }

abbrev pub entry_of : Edit → Entry
entry_of e = entry e.function e.a e.b e.c e.times

-- an edit of the sheet s, as line k: bad where it is malformed or the call is refused
unfoldable pub edit_on : ℕ → List ℕ → Option Edit → Outcome
edit_on k s None = Bad k
edit_on k s (Some e) =
    when nat_eq (edit_refusal s e.row e.function) 0 gives Sheet (edit_of s e.row (entry_of e)) else
    Bad k

-- one more line, as line k: the first is the row count, and after a bad one nothing more is read
unfoldable pub line_on : ℕ → Outcome → List ℕ → Outcome
line_on k Start l = count_on (decimal_of l)
line_on k (Sheet s) l = edit_on k s (line_of l)
line_on k (Bad j) l = Bad j

-- lines one after the other, the first of them as line k
unfoldable pub lines_on : ℕ → Outcome → List (List ℕ) → Outcome
lines_on k o [] = o
lines_on k o (l ∷ ls) = lines_on (suc k) (line_on k o l) ls

-- no line at all is a bad line 1
unfoldable pub closed : Outcome → Outcome
closed Start = Bad 1
closed (Sheet s) = Sheet s
closed (Bad k) = Bad k

-- what an input comes to: from Start its line 1 is the row count; from a sheet it is an edit, and no line at all leaves the sheet
unfoldable pub ran_of : Outcome → List ℕ → Outcome
ran_of o input = closed (lines_on 1 o (lines_of input))

-- the run
unfoldable pub run_of : List ℕ → List ℕ
run_of input = printed page_of (ran_of Start input)
