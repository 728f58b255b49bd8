-- What a row's line says (02, [10]): eight fields with a comma between. Definitions only.
use Rattle.std.specs.Prelude.{ℕ, zero, suc, ◌+◌, min, Option, Some, None, List, length, ltb, leb, eqb}
use Rattle.std.specs.Option.{is_none, unwrap_or}
use Rattle.laws.specs.Ladder.{when◌gives◌else◌}
use Rattle.answer.specs.Numbers.{last}
use Rattle.line.specs.Line.{decimal_of}
use Rattle.hexfloat.specs.Reading.{read_of}
use Rattle.hexline.specs.Parts.{part_at, place_of}

-- ---- a field

-- a number up to n
unfoldable pub up_to : ℕ → Option ℕ → Option ℕ
up_to n None = None
up_to n (Some k) =
    when ltb n k gives None else
    Some k

-- field j: 0 function, 1 to 3 arguments, 4 times, 5 refusal, 6 and 7 answers
unfoldable pub field_of : ℕ → List ℕ → Option ℕ
field_of j s =
    when eqb j 0 gives up_to last (decimal_of s) else
    when eqb j 4 gives up_to 65535 (decimal_of s) else
    when eqb j 5 gives decimal_of s else
    read_of s

-- what field j of a line says; a field that is not there is empty, and does not read
unfoldable pub says_of : List ℕ → ℕ → Option ℕ
says_of l j = field_of j (part_at 44 l (place_of 44 l j))

-- ---- the line

-- the first field from j on that does not read, of k that are asked
unfoldable pub bad_from : List ℕ → ℕ → ℕ → Option ℕ
bad_from l zero j = None
bad_from l (suc k) j =
    when is_none (says_of l j) gives Some j else
    bad_from l k (suc j)

-- the column where field j begins, from 1; one past the line's end where it is not there
unfoldable pub column_of : List ℕ → ℕ → ℕ
column_of l j = min (place_of 44 l j) (length l) + 1

-- the column of a field that does not read; else that of the comma after the eighth where there is one
unfoldable pub stop_at : List ℕ → Option ℕ → Option ℕ
stop_at l (Some j) = Some (column_of l j)
stop_at l None =
    when leb (place_of 44 l 8) (length l) gives Some (place_of 44 l 8) else
    None

-- the column where a line does not read, of its first field that does not; none where the line reads
unfoldable pub stop_of : List ℕ → Option ℕ
stop_of l = stop_at l (bad_from l 8 0)

-- the number of field j; 0 where it does not read
unfoldable pub value_in : List ℕ → ℕ → ℕ
value_in l j = unwrap_or (says_of l j) 0
