-- Edits of a sheet, and the rows that they come to (demand 3's own words). Definitions only.
use Rattle.std.specs.Prelude.{◌≡◌, ◌⊎◌, ℕ, suc, ◌+◌, ◌≤◌, ◌<◌, Bool, cond, ◌&&◌, List, [], ◌∷◌, eqb, length, replicate}
use Rattle.answer.specs.Numbers.{last}
use Rattle.ledger.specs.Sheet.{Row, blank_row, row_place, negative_in, size_in}
use Rattle.ledger.specs.Calls.{rows_in, rungs}
use Rattle.sheet.specs.declared.Entry.{Entry}
use Rattle.sheet.specs.Edit.{row_of, edit_refusal, edit_of}

-- what a caller hands to `sheet::edit`
pub record Edit : Type 0 where
  pub row : ℕ
  pub entry : Entry

-- ---- what the calls do: their contracts' definitions

-- the number that the call answers, and the bytes after it
abbrev pub answer : List ℕ → Edit → ℕ
answer s e = edit_refusal s e.row e.entry.function

abbrev pub after : List ℕ → Edit → List ℕ
after s e = edit_of s e.row e.entry

-- after a list of edits, first to last
unfoldable pub run : List ℕ → List Edit → List ℕ
run s [] = s
run s (e ∷ es) = run (after s e) es

-- ---- what they should come to

-- the answer in a sheet of r rows: 8, 22, 9, or accepted
abbrev pub answer_in : ℕ → Edit → ℕ
answer_in r e = rungs r e.row e.entry.function 0

unfoldable pub accepted : ℕ → Edit → Bool
accepted r e = eqb (answer_in r e) 0

-- the row that an edit works out
abbrev pub worked : Edit → Row
worked e = row_of e.entry

-- row i of r: worked out afresh from its last accepted edit; w where there is none
unfoldable pub last_row : ℕ → ℕ → Row → List Edit → Row
last_row r i w [] = w
last_row r i w (e ∷ es) = last_row r i (cond (accepted r e && eqb e.row i) (worked e) w) es

-- rows i, i + 1, .. of r
unfoldable pub fresh_from : ℕ → ℕ → List Row → List Edit → List Row
fresh_from r i [] es = []
fresh_from r i (w ∷ ws) es = last_row r i w es ∷ fresh_from r (suc i) ws es

-- the rows ws after these edits
abbrev pub fresh : List Row → List Edit → List Row
fresh ws es = fresh_from (length ws) 0 ws es

-- ---- the rows that a sheet starts with

-- r blank rows: the sheet that the library makes
abbrev pub blanks : ℕ → List Row
blanks r = replicate r blank_row

-- a row that some entry of a known function gives, function 1 too: such rows were entered before it went out (02, [13])
pub record Worked (w : Row) : Type 0 where
  pub entry : Entry
  pub known : entry.function ≤ last
  pub is : w ≡ row_of entry

abbrev pub AllWorked : List Row → Type 0
AllWorked [] = Unit {0}
AllWorked (w ∷ ws) = Worked w × AllWorked ws

-- ---- the total as a whole number: the rows' weights (times by first answer) above zero, and below, in units of 2^-1074

unfoldable pub above : List Row → ℕ
above [] = 0
above (w ∷ ws) = cond (negative_in w) 0 (size_in w) + above ws

unfoldable pub below : List Row → ℕ
below [] = 0
below (w ∷ ws) = cond (negative_in w) (size_in w) 0 + below ws

-- ---- the bytes that an edit leaves alone

-- place k is before the totals, and before or after the edit's row
abbrev pub Elsewhere : List ℕ → Edit → ℕ → Type 0
Elsewhere s e k = (k < row_place (rows_in s)) × ((k < row_place e.row) ⊎ (row_place e.row + 48 ≤ k))
