-- A sheet as hex text (02, [10]): a line with the row count, then one for each row, of eight fields with a comma between. Definitions only.
use Rattle.std.specs.Prelude.{ℕ, zero, suc, List, [], ◌++◌, length, get_or, eqb}
use Rattle.laws.specs.Ascii.{ascii}
use Rattle.laws.specs.Ladder.{when◌gives◌else◌}
use Rattle.text.specs.Text.{decimal, end}
use Rattle.hexfloat.specs.Spelled.{spelled_of}
use Rattle.ledger.specs.Bytes.{pattern_at}
use Rattle.ledger.specs.Calls.{rows_in, read_of, times_of}

abbrev pub comma : List ℕ
comma = ascii ","

-- ---- a row's line: function, three arguments, times, refusal, two answers

-- what was entered
unfoldable pub entered_text : ℕ → ℕ → ℕ → ℕ → ℕ → List ℕ
entered_text function a b c times =
    decimal function ++ comma ++ spelled_of a ++ comma ++ spelled_of b ++ comma ++ spelled_of c ++ comma ++ decimal times ++ comma

-- what it was worked out to
unfoldable pub worked_text : ℕ → ℕ → ℕ → List ℕ
worked_text refusal first second = decimal refusal ++ comma ++ spelled_of first ++ comma ++ spelled_of second ++ end

-- of the row that stands in the bytes w and was driven so many times
unfoldable pub row_text : List ℕ → ℕ → List ℕ
row_text w times =
    entered_text (get_or w 0 0) (pattern_at w 8) (pattern_at w 16) (pattern_at w 24) times ++ worked_text (get_or w 1 0) (pattern_at w 32) (pattern_at w 40)

-- ---- the sheet, damage as it stands

-- a row; one that can't be read has no line
unfoldable pub row_line : List ℕ → ℕ → List ℕ
row_line s i =
    when eqb (length (read_of s i)) 48 gives row_text (read_of s i) (times_of s i) else
    []

-- the first n rows
unfoldable pub row_lines : List ℕ → ℕ → List ℕ
row_lines s zero = []
row_lines s (suc n) = row_lines s n ++ row_line s n

unfoldable pub count_line : List ℕ → List ℕ
count_line s = decimal (rows_in s) ++ end

unfoldable pub text_of : List ℕ → List ℕ
text_of s = count_line s ++ row_lines s (rows_in s)
