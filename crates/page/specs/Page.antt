-- What the program prints (01, "it prints exactly"). Definitions only.
use Rattle.std.specs.Prelude.{ℕ, zero, suc, List, [], ◌++◌, length, get_or, ltb, eqb}
use Rattle.std.specs.Float.{binary64}
use Rattle.std.specs.Float.Ieee.{to_bits}
use Rattle.laws.specs.Ascii.{ascii}
use Rattle.laws.specs.Ladder.{when◌gives◌else◌}
use Rattle.ledger.specs.Bytes.{pattern_at}
use Rattle.ledger.specs.Sheet.{size_for, most_rows}
use Rattle.ledger.specs.Calls.{rows_in, read_of, times_of, total_of, count_of}
use Rattle.text.specs.Text.{decimal, pattern, space, end}

-- ---- a row: its number, its function and its refusal number, its two answers, and how often it was driven (02, [8])

unfoldable pub head_text : ℕ → ℕ → ℕ → List ℕ
head_text i function refusal = decimal i ++ space ++ decimal function ++ space ++ decimal refusal ++ space

unfoldable pub answers_text : ℕ → ℕ → ℕ → List ℕ
answers_text first second times = pattern first ++ space ++ pattern second ++ space ++ decimal times ++ end

-- the line of the row i that stands in the bytes w and was driven so many times
unfoldable pub row_text : ℕ → List ℕ → ℕ → List ℕ
row_text i w times = head_text i (get_or w 0 0) (get_or w 1 0) ++ answers_text (pattern_at w 32) (pattern_at w 40) times

-- a row of the sheet; one that cannot be read has no line
unfoldable pub row_line : List ℕ → ℕ → List ℕ
row_line s i =
    when eqb (length (read_of s i)) 48 gives row_text i (read_of s i) (times_of s i) else
    []

-- the first n rows
unfoldable pub row_lines : List ℕ → ℕ → List ℕ
row_lines s zero = []
row_lines s (suc n) = row_lines s n ++ row_line s n

-- ---- the counts and the total

-- the counts of the first n classes
unfoldable pub count_fields : List ℕ → ℕ → List ℕ
count_fields s zero = []
count_fields s (suc n) = count_fields s n ++ (decimal (count_of s n) ++ space)

-- five numbers: blank, finite, +∞, -∞, refused
unfoldable pub counts_line : List ℕ → List ℕ
counts_line s = ascii "counts " ++ count_fields s 4 ++ decimal (count_of s 4) ++ end

-- the total rounded once, as its bit pattern
unfoldable pub total_line : List ℕ → List ℕ
total_line s = ascii "total " ++ pattern (to_bits binary64 (total_of s)) ++ end

-- ---- the page

-- the bytes of the largest sheet
abbrev pub largest : ℕ
largest = size_for most_rows

-- how many rows are shown: none of more bytes than the largest sheet has
unfoldable pub shown_of : List ℕ → ℕ
shown_of s =
    when ltb largest (length s) gives 0 else
    rows_in s

-- all rows, the counts, the total; nothing for more bytes than the largest sheet has
unfoldable pub page_of : List ℕ → List ℕ
page_of s =
    when ltb largest (length s) gives [] else
    row_lines s (rows_in s) ++ counts_line s ++ total_line s

-- ---- instead of the page

-- line k is malformed, or its call was refused
unfoldable pub bad_line : ℕ → List ℕ
bad_line k = ascii "bad line " ++ decimal k ++ end

-- the input could not be read on after line k
unfoldable pub failed_line : ℕ → List ℕ
failed_line k = ascii "input failed after line " ++ decimal k ++ end
