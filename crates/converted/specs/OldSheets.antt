-- The sheets that the library made before rows kept times (01's, which say 1), of rows and of entries. Definitions only.
use Rattle.std.specs.Prelude.{ℕ, ◌+◌, ◌%◌, ◌≤◌, false, List, [], ◌∷◌, ◌++◌, length}
use Rattle.answer.specs.Numbers.{last}
use Rattle.total.specs.Total.{N, units_of}
use Rattle.ledger.specs.Bytes.{fields}
use Rattle.ledger.specs.Sheet.{Row, without_times, entries, value_of, totals, counts, flat}
use Rattle.sheet.specs.declared.Entry.{Entry}
use Rattle.sheet.specs.Edit.{row_of}
use Rattle.conversion.specs.Conversion.{turned}

-- the sum of the rows' first answers, each once, where it is finite
unfoldable pub sum_once : List Row → ℕ
sum_once [] = 0
sum_once (w ∷ ws) = units_of 1 (value_of w) + sum_once ws

-- the sheet that says 1 of these rows: contents, rows, totals
unfoldable pub encode_old : List Row → List ℕ
encode_old ws = fields 4 (entries without_times (length ws)) ++ (flat ws ++ totals (counts ws) (sum_once ws % N))

-- today's row of an entry that was driven once
abbrev pub new_row : Entry → Row
new_row e = row_of (record { function = e.function; a = e.a; b = e.b; c = e.c; times = 1 })

-- the row that the same entry had in a sheet that says 1: zeros where the times now stand
abbrev pub old_row : Entry → Row
old_row e = turned false (new_row e)

-- what holds of each
abbrev pub All : {A : Type 0} → (A → Type 0) → List A → Type 0
All P [] = Unit {0}
All P (x ∷ xs) = P x × All P xs

-- an entry of a known function, function 1 too: such rows were entered before it went out
abbrev pub Known : Entry → Type 0
Known e = e.function ≤ last
