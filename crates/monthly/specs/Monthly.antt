-- What legmonth prints (02, [2]): the month's report, line by line, and the start of the line of a file that is not taken. Definitions only.
use Rattle.std.specs.Prelude.{ℕ, zero, suc, List, [], ◌++◌, get_or, leb, eqb, Option, Some, None}
use Rattle.std.specs.Float.{binary64}
use Rattle.std.specs.Float.Ieee.{to_bits}
use Rattle.laws.specs.Ascii.{ascii}
use Rattle.laws.specs.Ladder.{when◌gives◌else◌}
use Rattle.total.specs.Total.{val, Half, size_of_total, round_total}
use Rattle.text.specs.Text.{decimal, pattern, three, space, end}
use Rattle.exact.specs.Exact.{signed_hex}
use Rattle.month.specs.declared.parts.Extreme.{Extreme}
use Rattle.month.specs.declared.parts.Report.{Report}

-- ---- the lines

-- words and a number
unfoldable pub note : List ℕ → ℕ → List ℕ
note words n = words ++ decimal n

-- blank, finite, +∞, -∞, refused
unfoldable pub counts_text : List ℕ → List ℕ
counts_text xs = ascii "counts " ++ three (get_or xs 0 0) (get_or xs 1 0) (get_or xs 2 0) ++ space ++ decimal (get_or xs 3 0) ++ space ++ decimal (get_or xs 4 0) ++ end

-- the total of all rows with their times, rounded once
unfoldable pub total_text : ℕ → List ℕ
total_text v = ascii "total " ++ pattern (to_bits binary64 (round_total v)) ++ end

-- the same, in units of 2^-1074
unfoldable pub exact_text : ℕ → List ℕ
exact_text v = ascii "exact " ++ signed_hex (leb Half v) (size_of_total v) ++ end

-- where an extreme stands
unfoldable pub place_text : ℕ → ℕ → List ℕ
place_text sheet row = note (ascii "sheet ") sheet ++ space ++ note (ascii "row ") row ++ end

-- the largest or the smallest finite first answer, or none
unfoldable pub extreme_text : List ℕ → Option Extreme → List ℕ
extreme_text words None = words ++ ascii "none\n"
extreme_text words (Some e) = words ++ pattern e.pattern ++ space ++ place_text e.sheet e.row

-- a refusal number and how many rows hold it; no line where none does
unfoldable pub refusal_text : ℕ → ℕ → List ℕ
refusal_text q n =
    when eqb n 0 gives [] else
    note (ascii "refusal ") q ++ space ++ decimal n ++ end

-- the first n numbers, rising
unfoldable pub refusal_lines : List ℕ → ℕ → List ℕ
refusal_lines xs zero = []
refusal_lines xs (suc n) = refusal_lines xs n ++ refusal_text n (get_or xs n 0)

-- ---- the report

-- files taken, files not, rows by class
unfoldable pub head_text : ℕ → ℕ → List ℕ → List ℕ
head_text sheets apart counts = note (ascii "sheets ") sheets ++ end ++ note (ascii "apart ") apart ++ end ++ counts_text counts

unfoldable pub sums_text : ℕ → List ℕ
sums_text v = total_text v ++ exact_text v

unfoldable pub extremes_text : Option Extreme → Option Extreme → List ℕ
extremes_text largest smallest = extreme_text (ascii "largest ") largest ++ extreme_text (ascii "smallest ") smallest

-- all of it; apart: how many files were not taken
unfoldable pub report_text : ℕ → Report → List ℕ
report_text apart r = head_text r.sheets apart r.counts ++ sums_text (val r.total.limbs) ++ extremes_text r.largest r.smallest ++ refusal_lines r.refusals 32

-- ---- the start of a file's line, its name to follow: 7; 10 and the row; or it can't be read

unfoldable pub stop_text : ℕ → ℕ → List ℕ
stop_text refusal row =
    when eqb refusal 10 gives note (ascii "file 10 row ") row ++ space else
    note (ascii "file ") refusal ++ space

unfoldable pub unread_text : List ℕ
unread_text = ascii "file unread "
