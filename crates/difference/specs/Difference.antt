-- Two sheets compared, the old one s and the new one t (02, [5]): what refuses it, how each row differs, and the difference of the totals. Definitions only.
use Rattle.std.specs.Prelude.{ℕ, zero, suc, ◌+◌, ◌-◌, Bool, true, false, not, ◌&&◌, List, ltb, eqb, Result, Ok, Err, ⊤, ℤ, pos, negsuc, neg_ℤ, ◌-ℤ◌}
use Rattle.std.specs.Float.Ieee.Scale.{finite}
use Rattle.laws.specs.Arithmetic.{float}
use Rattle.laws.specs.Ladder.{when◌gives◌else◌}
use Rattle.total.specs.Total.{N, Half}
use Rattle.ledger.specs.Sheet.{finite_class}
use Rattle.ledger.specs.Class.{class_at}
use Rattle.ledger.specs.Calls.{rows_in, equal, is_sheet, read_of, exact_of}
use Rattle.inspection.specs.Rows.{first_rejected, class_in, word_of}
use Rattle.difference.specs.Steps.{steps_of}
use Rattle.difference.specs.declared.Side.{Side}
use Rattle.difference.specs.declared.Side.TheVariants.{Old, New}
use Rattle.difference.specs.declared.Stop.{Stop}
use Rattle.difference.specs.declared.Stop.TheVariants.{NotASheet, Unequal, Damaged}
use Rattle.difference.specs.declared.Change.{Change}
use Rattle.difference.specs.declared.Change.TheVariants.{Same, Moved, Alike, First, Steps}

-- ---- refusals

-- the number of what refuses a comparison, 0 where nothing does
abbrev pub number_of : Result ⊤ Stop → ℕ
number_of (Ok x) = 0
number_of (Err (NotASheet k)) = 7
number_of (Err Unequal) = 13
number_of (Err (Damaged k i)) = 10

-- the row that it is about, 0 where it is about none
abbrev pub row_of : Stop → ℕ
row_of (NotASheet k) = 0
row_of Unequal = 0
row_of (Damaged k i) = i

-- a sheet's first row that refusal 10's row tests reject, if there is one
unfoldable pub rejected_of : List ℕ → Side → Result ⊤ Stop
rejected_of s k =
    when ltb (first_rejected s) (rows_in s) gives Err (Damaged k (first_rejected s)) else
    Ok tt

-- "7 for either file; a new 13 when the row counts differ, tried after both files have passed 7; then 10 for a row that refusal 10's row tests reject"
unfoldable pub stop_of : List ℕ → List ℕ → Result ⊤ Stop
stop_of s t =
    when not (is_sheet s) gives Err (NotASheet Old) else
    when not (is_sheet t) gives Err (NotASheet New) else
    when not (eqb (rows_in s) (rows_in t)) gives Err Unequal else
    when ltb (first_rejected s) (rows_in s) gives Err (Damaged Old (first_rejected s)) else
    when ltb (first_rejected t) (rows_in t) gives Err (Damaged New (first_rejected t)) else
    Ok tt

-- ---- rows

-- the 48 bytes of row i agree
unfoldable pub agree : List ℕ → List ℕ → ℕ → Bool
agree s t i = equal (read_of s i) (read_of t i)

-- "for finite answers the distance counted in f64 steps", of the first ones alone where a second one is not finite
unfoldable pub distance_of : List ℕ → List ℕ → ℕ → Change
distance_of s t i =
    when finite (float (word_of s i 5)) && finite (float (word_of t i 5)) gives Steps (steps_of (word_of s i 4) (word_of t i 4)) (steps_of (word_of s i 5) (word_of t i 5)) else
    First (steps_of (word_of s i 4) (word_of t i 4))

-- how row i differs: "a move between 01's five classes is shown by the two, with no distance"
unfoldable pub change_of : List ℕ → List ℕ → ℕ → Change
change_of s t i =
    when agree s t i gives Same else
    when not (eqb (class_in s i) (class_in t i)) gives Moved (class_at (class_in s i)) (class_at (class_in t i)) else
    when not (eqb (class_in s i) finite_class) gives Alike (class_at (class_in s i)) else
    distance_of s t i

-- how many rows a sheet has; other bytes have none
unfoldable pub rows_of : List ℕ → ℕ
rows_of s = when is_sheet s gives rows_in s else 0

-- how many of the first n rows differ
unfoldable pub changes : List ℕ → List ℕ → ℕ → ℕ
changes s t zero = 0
changes s t (suc n) = changes s t n + (when agree s t n gives 0 else 1)

-- ---- totals

-- a stored total as a signed whole number: two's complement of 2 ^ 2176
unfoldable pub signed_of : ℕ → ℤ
signed_of v =
    when ltb v Half gives pos v else
    neg_ℤ (pos (N - v))

-- "the difference of the two exact totals, as a signed whole number": the new one's less the old one's
unfoldable pub growth_of : List ℕ → List ℕ → ℤ
growth_of s t = signed_of (exact_of t) -ℤ signed_of (exact_of s)

-- whether a whole number is below zero; its size is natAbs's
abbrev pub below_zero : ℤ → Bool
below_zero (pos n) = false
below_zero (negsuc n) = true
