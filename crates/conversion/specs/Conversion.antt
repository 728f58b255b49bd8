-- From a sheet that says 1 to one that says 3, and back (02, [9]). `forth` says which way: true from 1 to 3, false back. Definitions only.
use Rattle.std.specs.Prelude.{ℕ, zero, suc, ◌+◌, Bool, true, false, cond, not, ◌&&◌, ◌||◌, List, ◌++◌, ltb, eqb, take, drop, Result, Ok, Err}
use Rattle.laws.specs.Ladder.{when◌gives◌else◌}
use Rattle.laws.specs.Splice.{splice}
use Rattle.ledger.specs.Bytes.{bytes}
use Rattle.ledger.specs.Sheet.{Row, without_times, with_times, blank_class, finite_class, plus∞Class, minus∞Class, refused_class, function_in}
use Rattle.ledger.specs.Calls.{rows_in, is_sheet_of, times_of, count_of}
use Rattle.inspection.specs.Rows.{sound_row, first_from, class_in}
use Rattle.conversion.specs.declared.Way.{Way}
use Rattle.conversion.specs.declared.Way.TheVariants.{Forth, Back}
use Rattle.conversion.specs.declared.Stop.{Stop}
use Rattle.answer.specs.Numbers.{number}

-- what the sheet must say, and what it says afterwards
abbrev pub says_before : Bool → ℕ
says_before forth = cond forth without_times with_times

abbrev pub says_after : Bool → ℕ
says_after forth = says_before (not forth)

-- which way
unfoldable pub is_forth : Way → Bool
is_forth Forth = true
is_forth Back = false

-- ---- a row, one relation for both ways

-- the times that a row of a sheet that says 1 has in one that says 3: "times 1 for every row that is not blank"
unfoldable pub once : Row → ℕ
once w = when eqb (function_in w) 0 gives 0 else 1

-- the row with other times in its bytes 2 and 3; every other byte as it stands
unfoldable pub driven : ℕ → Row → Row
driven k w = splice w 2 (bytes 2 k)

-- what becomes of a row: forth it has its times, back it has none
unfoldable pub turned : Bool → Row → Row
turned forth w = driven (cond forth (once w) 0) w

-- ---- the sheet

-- n rows turned, and what follows them as it stands
unfoldable pub turned_rows : Bool → ℕ → List ℕ → List ℕ
turned_rows forth zero t = t
turned_rows forth (suc n) t = turned forth (take 48 t) ++ turned_rows forth n (drop 48 t)

-- bytes 0 to 3 say what it now is, each row is turned, and every other byte is carried over as it stands: counts and total too
unfoldable pub turned_sheet : Bool → List ℕ → List ℕ
turned_sheet forth s = bytes 4 (says_after forth) ++ (take 28 (drop 4 s) ++ turned_rows forth (rows_in s) (drop 32 s))

-- ---- refusals

-- the first of n places at which it holds; n where it holds at none
abbrev pub first_of : (ℕ → Bool) → ℕ → ℕ
first_of test n = first_from test 0 n

-- 10 for a row: the row tests reject it, or its class counts 0
unfoldable pub rejected : List ℕ → ℕ → Bool
rejected s i = not (sound_row s i) || eqb (count_of s (class_in s i)) 0

-- 10 for the counts: they do not add up to the rows
unfoldable pub uncounted : List ℕ → Bool
uncounted s =
    not (eqb (count_of s blank_class + count_of s finite_class + count_of s plus∞Class + count_of s minus∞Class + count_of s refused_class) (rows_in s))

-- 17: "some row that is not blank has times other than 1"
unfoldable pub oftener : List ℕ → ℕ → Bool
oftener s i = not (eqb (class_in s i) blank_class) && not (eqb (times_of s i) 1)

-- a refusal number, and the row that it is about
pub record Stopped : Type 0 where
  pub refusal : ℕ
  pub row : ℕ

abbrev pub stopped : ℕ → ℕ → Stopped
stopped q i = record { refusal = q; row = i }

-- what refuses the call, 0 for nothing, and the row: 7, for the wrong direction too; 10 for the first such row; 10 for the counts, which the number of rows names; back, 17 for the first such row
unfoldable pub stop_of : Bool → List ℕ → Stopped
stop_of forth s =
    let r = rows_in s in
    let damaged = first_of (rejected s) r in
    let often = first_of (oftener s) r in
    when not (is_sheet_of (says_before forth) s) gives stopped 7 0 else
    when ltb damaged r gives stopped 10 damaged else
    when uncounted s gives stopped 10 r else
    when not forth && ltb often r gives stopped 17 often else
    stopped 0 0

-- the same as a result: no refusal and no row where the call is taken
unfoldable pub stopped_of : Result (Unit {0}) Stop → Stopped
stopped_of (Ok a) = stopped 0 0
stopped_of (Err s) = stopped (number s.refusal) s.row

-- ---- the call

-- the sheet afterwards; a refused call changes no byte
unfoldable pub converted_of : Bool → List ℕ → List ℕ
converted_of forth s = when eqb (stop_of forth s).refusal 0 gives turned_sheet forth s else s
