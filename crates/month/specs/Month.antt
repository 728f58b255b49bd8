-- The month report (02, [2]): legs, what they come to, and the report that takes one sheet after the other. Definitions only.
use Rattle.std.specs.Prelude.{ℕ, zero, suc, ◌+◌, ◌%◌, ◌^◌, Bool, true, false, cond, not, ◌&&◌, ltb, List, [], ◌∷◌, take, drop, replicate, ◌==◌, nat_eq, slice_index, slice_set, Option, Some, None, Result, Ok, Err, ⊤}
use Rattle.std.specs.Result.{is_ok}
use Rattle.laws.specs.Arithmetic.{float, ◌<·◌}
use Rattle.laws.specs.Ladder.{when◌gives◌else◌}
use Rattle.total.specs.Total.{val, limbs_of, add_of}
use Rattle.ledger.specs.Bytes.{number}
use Rattle.ledger.specs.Sheet.{Row, refused_class, finite_class, class_of, refusal_in, value_of}
use Rattle.ledger.specs.Calls.{rows_in, row_in, is_sheet, times_of}
use Rattle.inspection.specs.Rows.{first_rejected}
use Rattle.month.specs.declared.parts.Extreme.{Extreme}
use Rattle.month.specs.declared.parts.Report.{Report}
use Rattle.month.specs.declared.parts.Share.{Share}
use Rattle.month.specs.declared.parts.Stop.{Stop}
use Rattle.month.specs.declared.parts.Stop.TheVariants.{NotASheet, Damaged}

-- ---- legs

-- a leg of the month: the number of its sheet, its row, how often it was driven, and its 48 bytes
pub record Leg : Type 0 where
  pub sheet : ℕ
  pub row : ℕ
  pub times : ℕ
  pub bytes : Row

-- row i of sheet n, whose bytes are s
unfoldable pub leg_at : ℕ → List ℕ → ℕ → Leg
leg_at n s i = record { sheet = n; row = i; times = times_of s i; bytes = row_in s i }

-- k legs from row i on
unfoldable pub legs_from : ℕ → List ℕ → ℕ → ℕ → List Leg
legs_from n s i zero = []
legs_from n s i (suc k) = leg_at n s i ∷ legs_from n s (suc i) k

-- the legs of a sheet, row by row
unfoldable pub legs_of : ℕ → List ℕ → List Leg
legs_of n s = legs_from n s 0 (rows_in s)

-- a row's first answer, as a bit pattern
unfoldable pub pattern_in : Row → ℕ
pattern_in w = number (take 8 (drop 32 w))

-- ---- whether a file is taken

-- 7, not a sheet; 10, with the first row that refusal 10's row tests reject. Stored counts and totals are not looked at
unfoldable pub stop_of : List ℕ → Result ⊤ Stop
stop_of s =
    when not (is_sheet s) gives Err NotASheet else
    when ltb (first_rejected s) (rows_in s) gives Err (Damaged (first_rejected s)) else
    Ok tt

-- the number of what stops a file
abbrev pub number_of : Stop → ℕ
number_of NotASheet = 7
number_of (Damaged i) = 10

-- and the row that it is about, 0 where it is about none
abbrev pub row_of : Stop → ℕ
row_of NotASheet = 0
row_of (Damaged i) = i

-- ---- what the legs come to

-- how many are of class k
unfoldable pub count_of : ℕ → List Leg → ℕ
count_of k [] = 0
count_of k (l ∷ ls) = cond (k == class_of l.bytes) 1 0 + count_of k ls

-- how many of class refused hold refusal number q
unfoldable pub refused_of : ℕ → List Leg → ℕ
refused_of q [] = 0
refused_of q (l ∷ ls) = cond (refused_class == class_of l.bytes && q == refusal_in l.bytes) 1 0 + refused_of q ls

-- the sum of times by finite first answers, modulo N in two's complement
unfoldable pub total_of : List Leg → ℕ
total_of [] = 0
total_of (l ∷ ls) = add_of (total_of ls) l.times (value_of l.bytes)

-- the second of two patterns is strictly beyond the first: above it (top true) or below it, as numbers
unfoldable pub beyond : Bool → ℕ → ℕ → Bool
beyond top p q = when top gives float p <· float q else float q <· float p

-- ---- one more leg

-- one leg after the other
unfoldable pub fold : {X : Type 0} → (X → Leg → X) → X → List Leg → X
fold step x [] = x
fold step x (l ∷ ls) = fold step (step x l) ls

-- what a leg brings to the report
unfoldable pub share_of : Leg → Share
share_of l = record {
  class = class_of l.bytes;
  refusal = refusal_in l.bytes;
  times = l.times;
  value = value_of l.bytes;
  pattern = pattern_in l.bytes;
  sheet = l.sheet;
  row = l.row;
}

-- one more at place k, modulo 2 ^ 64; a month never wraps it (Meaning)
unfoldable pub one_more : List ℕ → ℕ → List ℕ
one_more xs k = slice_set xs k ((slice_index xs k + 1) % 2 ^ 64)

-- a row of class refused counts under its refusal number
unfoldable pub refusals_on : List ℕ → Share → List ℕ
refusals_on xs h = when nat_eq refused_class h.class gives one_more xs h.refusal else xs

-- whether the one that stands stays: a pattern is not strictly beyond it
abbrev pub stays : Bool → Option Extreme → ℕ → Bool
stays top None p = false
stays top (Some e) p = not (beyond top e.pattern p)

-- a finite first answer takes the place of the one that stands only where it is strictly beyond: the earliest stays
unfoldable pub extreme_on : Bool → Option Extreme → Share → Option Extreme
extreme_on top e h =
    when not (h.class == finite_class) gives e else
    when stays top e h.pattern gives e else
    Some (record { pattern = h.pattern; sheet = h.sheet; row = h.row })

-- the largest (top true) or smallest finite first answer of all
unfoldable pub extreme_of : Bool → List Leg → Option Extreme
extreme_of top ls = fold (λ (e : Option Extreme) (l : Leg). extreme_on top e (share_of l)) None ls

-- a leg's share on the report
unfoldable pub share_on : Report → Share → Report
share_on r h = record {
  sheets = r.sheets;
  counts = one_more r.counts h.class;
  refusals = refusals_on r.refusals h;
  total = record { limbs = limbs_of (add_of (val r.total.limbs) h.times h.value) };
  largest = extreme_on true r.largest h;
  smallest = extreme_on false r.smallest h;
}

unfoldable pub leg_on : Report → Leg → Report
leg_on r l = share_on r (share_of l)

unfoldable pub legs_on : Report → List Leg → Report
legs_on r ls = fold leg_on r ls

-- ---- the report

-- of no sheet
unfoldable pub start_of : Report
start_of = record { sheets = 0; counts = replicate 5 0; refusals = replicate 32 0; total = record { limbs = limbs_of 0 }; largest = None; smallest = None }

-- one more sheet
unfoldable pub sheet_on : Report → Report
sheet_on r = record { sheets = (r.sheets + 1) % 2 ^ 64; counts = r.counts; refusals = r.refusals; total = r.total; largest = r.largest; smallest = r.smallest }

-- sheet n, whose bytes are s: all its legs, in order; a file that is not taken adds nothing
unfoldable pub added_of : Report → ℕ → List ℕ → Report
added_of r n s = when is_ok (stop_of s) gives legs_on (sheet_on r) (legs_of n s) else r
