-- What the calls on a sheet's rows answer (01, "The leg sheet"). Definitions only.
use Rattle.std.specs.Prelude.{ℕ, zero, suc, ◌*◌, Bool, false, not, ◌&&◌, Option, Some, None, List, ltb, eqb, take, drop, Float}
use Rattle.laws.specs.Arithmetic.{+0}
use Rattle.laws.specs.Ladder.{when◌gives◌else◌}
use Rattle.ledger.specs.Bytes.{number}
use Rattle.ledger.specs.Sheet.{no_class, class_of, value_of, sound}
use Rattle.ledger.specs.Calls.{rows_in, row_in, is_sheet, row_refusal, read_of}

-- whether the row passes the row tests; not where it can't be read
unfoldable pub sound_row : List ℕ → ℕ → Bool
sound_row s i = when eqb (row_refusal s i) 0 gives sound (row_in s i) else false

-- the first of n places from i on at which a test holds; the place after them where it holds at none
unfoldable pub first_from : (ℕ → Bool) → ℕ → ℕ → ℕ
first_from test i zero = i
first_from test i (suc n) =
    when test i gives i else
    first_from test (suc i) n

-- the first row of a sheet that the row tests reject; the row count where they reject none; 0 for other bytes
unfoldable pub first_rejected : List ℕ → ℕ
first_rejected s = when is_sheet s gives first_from (λ (i : ℕ). not (sound_row s i)) 0 (rows_in s) else 0

-- the same row, where there is one
unfoldable pub rejected_row : List ℕ → Option ℕ
rejected_row s = when is_sheet s && ltb (first_rejected s) (rows_in s) gives Some (first_rejected s) else None

-- the row's class; none where it can't be read
unfoldable pub class_in : List ℕ → ℕ → ℕ
class_in s i = when eqb (row_refusal s i) 0 gives class_of (row_in s i) else no_class

-- word k of the row: its first eight bytes, the arguments (1 to 3) and the answers (4 and 5) as bit patterns; 0 where there is none
unfoldable pub word_of : List ℕ → ℕ → ℕ → ℕ
word_of s i k = number (take 8 (drop (8 * k) (read_of s i)))

-- its first answer where that is finite, else +0; +0 where it can't be read
unfoldable pub value_in : List ℕ → ℕ → Float
value_in s i = when eqb (row_refusal s i) 0 gives value_of (row_in s i) else +0
