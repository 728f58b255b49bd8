-- What each call answers, and what it makes of the sheet's bytes (01, "The leg sheet", from "Calls" on). Definitions only.
use Rattle.std.specs.Prelude.{ℕ, ◌+◌, ◌-◌, ◌/◌, ◌≡◌, Bool, true, false, ◌&&◌, ◌||◌, not, List, [], ◌∷◌, leb, ltb, eqb, length, take, drop, get_or, set, replicate, Float, None}
use Rattle.laws.specs.Arithmetic.{+0}
use Rattle.laws.specs.Ladder.{when◌gives◌else◌}
use Rattle.answer.specs.Numbers.{last}
use Rattle.total.specs.Total.{round_total}
use Rattle.laws.specs.Splice.{splice}
use Rattle.ledger.specs.declared.row.Share.{Share}
use Rattle.ledger.specs.Bytes.{number, read}
use Rattle.ledger.specs.Class.{class_at}
use Rattle.ledger.specs.Sheet.{Row, withdrawn, without_times, with_times, entries, size_for, most_rows, row_place, blank_row, function_in, times_in, class_of, value_of, sound, retotal, totals, encode}

-- ---- what stands in bytes that may be a sheet

-- how many rows bytes of this length have room for
unfoldable pub rows_in : List ℕ → ℕ
rows_in s = (length s - 328) / 48

-- the length is that of a sheet
abbrev pub Sized : List ℕ → Type 0
Sized s = length s ≡ size_for (rows_in s)

-- row i, the five counts, the total, where such a sheet has them
unfoldable pub row_in : List ℕ → ℕ → Row
row_in s i = take 48 (drop (row_place i) s)

unfoldable pub counts_in : List ℕ → List ℕ
counts_in s = read 4 5 (drop (row_place (rows_in s)) s)

unfoldable pub total_in : List ℕ → ℕ
total_in s = number (take 272 (drop (row_place (rows_in s) + 24) s))

-- the same numbers
unfoldable pub equal : List ℕ → List ℕ → Bool
equal [] [] = true
equal [] (y ∷ ys) = false
equal (x ∷ xs) [] = false
equal (x ∷ xs) (y ∷ ys) = eqb x y && equal xs ys

-- added up
unfoldable pub plus : List ℕ → ℕ
plus [] = 0
plus (x ∷ xs) = x + plus xs

-- ---- refusals; 0: none

-- length and contents are those of a sheet whose first word is k
unfoldable pub is_sheet_of : ℕ → List ℕ → Bool
is_sheet_of k s = leb (rows_in s) most_rows && (eqb (length s) (size_for (rows_in s)) && equal (read 4 8 s) (entries k (rows_in s)))

-- refusal 7, for what only reads: not a sheet, whether its rows keep times or not
unfoldable pub is_sheet : List ℕ → Bool
is_sheet s = is_sheet_of with_times s || is_sheet_of without_times s

-- refusal 10's count tests: the counts do not add up, or that of the row's class is 0
unfoldable pub miscounted : List ℕ → ℕ → Bool
miscounted s i = not (eqb (plus (counts_in s)) (rows_in s)) || eqb (get_or (counts_in s) (class_of (row_in s i)) 0) 0

-- refusal 10: the row to be replaced is damaged, or the counts are
unfoldable pub damaged : List ℕ → ℕ → Bool
damaged s i = not (sound (row_in s i)) || miscounted s i

-- a new row's function: 22 for the one that goes out, 9 for a number that is no function's
abbrev pub function_rungs : ℕ → ℕ → ℕ
function_rungs f rest =
    when eqb f withdrawn gives 22 else
    when ltb last f gives 9 else
    rest

-- "Order for an edit: 7, 8, 9, 10.", and 22 after 8 (02, [13]): what stands between 7 and the rest, for row i of r and a new row's function f
unfoldable pub rungs : ℕ → ℕ → ℕ → ℕ → ℕ
rungs r i f rest =
    when leb r i gives 8 else
    function_rungs f rest

-- "The total: 7."
unfoldable pub total_refusal : List ℕ → ℕ
total_refusal s =
    when not (is_sheet s) gives 7 else
    0

-- what a row read asks, and an edit first: whether the call takes the bytes for a sheet, and whether its rows go beyond i
abbrev pub row_rungs : Bool → ℕ → ℕ → ℕ
row_rungs taken rows i =
    when not taken gives 7 else
    when leb rows i gives 8 else
    0

-- "A row read: 7, 8."
unfoldable pub row_refusal : List ℕ → ℕ → ℕ
row_refusal s i = row_rungs (is_sheet s) (rows_in s) i

-- row w in place of row i: 7 also for a sheet without times, which is only read; 10 also where w is no row that an edit stores
unfoldable pub place_refusal : List ℕ → ℕ → Row → ℕ
place_refusal s i w =
    when not (is_sheet_of with_times s) gives 7 else
    rungs (rows_in s) i (function_in w) (when not (sound w) || damaged s i gives 10 else 0)

-- "make blank (11, then 7 for the length)"
unfoldable pub blank_refusal : List ℕ → ℕ → ℕ
blank_refusal s r =
    when ltb most_rows r gives 11 else
    when not (eqb (length s) (size_for r)) gives 7 else
    0

-- ---- the calls

-- a sheet of blank rows; a refused call changes no byte
unfoldable pub blank_of : List ℕ → ℕ → List ℕ
blank_of s r = when eqb (blank_refusal s r) 0 gives encode (replicate r blank_row) else s

-- the share of any bytes: those that are not 48 are no row
unfoldable pub share_of : List ℕ → Share
share_of w =
    when eqb (length w) 48 gives record { class = class_at (class_of w); value = value_of w; times = times_in w } else
    record { class = None; value = +0; times = 0 }

-- one less of the old class, one more of the new
unfoldable pub recount : List ℕ → ℕ → ℕ → List ℕ
recount cs old new = let less = set cs old (get_or cs old 0 - 1) in set less new (get_or less new 0 + 1)

-- the sheet's totals with row new in place of row old
unfoldable pub revised : List ℕ → Row → Row → List ℕ
revised s old new = totals (recount (counts_in s) (class_of old) (class_of new)) (retotal (total_in s) old new)

-- row w in place of row i, and the totals with it
unfoldable pub edited : List ℕ → ℕ → Row → List ℕ
edited s i w = splice (splice s (row_place i) w) (row_place (rows_in s)) (revised s (row_in s i) w)

-- the same, of any bytes; a refused call changes none
unfoldable pub place_of : List ℕ → ℕ → Row → List ℕ
place_of s i w = when eqb (place_refusal s i w) 0 gives edited s i w else s

-- the row's own bytes; none where the read is refused
unfoldable pub read_of : List ℕ → ℕ → List ℕ
read_of s i = when eqb (row_refusal s i) 0 gives row_in s i else []

-- how often the row was driven: in a sheet without times once, and a blank row never; 0 where it can't be read
unfoldable pub times_of : List ℕ → ℕ → ℕ
times_of s i =
    when not (eqb (row_refusal s i) 0) gives 0 else
    when is_sheet_of with_times s gives times_in (row_in s i) else
    when eqb (function_in (row_in s i)) 0 gives 0 else
    1

-- the total rounded once; +0 where it is refused
unfoldable pub total_of : List ℕ → Float
total_of s = when eqb (total_refusal s) 0 gives round_total (total_in s) else +0

-- the total as it is stored, a number modulo 2 ^ 2176 in two's complement; 0 where it is refused
unfoldable pub exact_of : List ℕ → ℕ
exact_of s = when eqb (total_refusal s) 0 gives total_in s else 0

-- how many rows are of class k, by the sheet's own counts; 0 where it is refused
unfoldable pub count_of : List ℕ → ℕ → ℕ
count_of s k = when eqb (total_refusal s) 0 gives get_or (counts_in s) k 0 else 0
