-- What legdiff prints (02, [5]): for each row that differs a line, and the end; or why it refuses. s is the old sheet, t the new one. Definitions only.
use Rattle.std.specs.Prelude.{ℕ, zero, suc, Option, Some, None, Err, List, [], ◌++◌, eqb, ℤ, nat_abs}
use Rattle.laws.specs.Ascii.{ascii}
use Rattle.laws.specs.Ladder.{when◌gives◌else◌}
use Rattle.ledger.specs.declared.row.Class.{Class}
use Rattle.ledger.specs.declared.row.Class.TheVariants.{Blank, Finite, PlusInfinity, MinusInfinity, Refused}
use Rattle.ledger.specs.Sheet.{Row, function_in, refusal_in}
use Rattle.ledger.specs.Calls.{rows_in, read_of, times_of}
use Rattle.inspection.specs.Rows.{word_of}
use Rattle.text.specs.Text.{decimal, pattern, space, end}
use Rattle.exact.specs.Exact.{signed_hex}
use Rattle.difference.specs.declared.Side.TheVariants.{Old, New}
use Rattle.difference.specs.declared.Stop.{Stop}
use Rattle.difference.specs.declared.Stop.TheVariants.{NotASheet, Unequal, Damaged}
use Rattle.difference.specs.declared.Change.{Change}
use Rattle.difference.specs.declared.Change.TheVariants.{Same, Moved, Alike, First, Steps}
use Rattle.difference.specs.Difference.{number_of, row_of, agree, change_of, changes, rows_of, growth_of, below_zero}

-- ---- what a row holds

-- a number, and a bit pattern, with a space behind it
abbrev pub field : ℕ → List ℕ
field n = decimal n ++ space

abbrev pub digits : ℕ → List ℕ
digits p = pattern p ++ space

-- a number at the line's end
abbrev pub last : ℕ → List ℕ
last n = decimal n ++ end

-- function and refusal number
unfoldable pub head_of : Row → List ℕ
head_of w = field (function_in w) ++ field (refusal_in w)

-- the three arguments
unfoldable pub arguments_of : List ℕ → ℕ → List ℕ
arguments_of s i = digits (word_of s i 1) ++ digits (word_of s i 2) ++ digits (word_of s i 3)

-- row i of one sheet: function, refusal number, arguments and times
unfoldable pub side_of : List ℕ → ℕ → List ℕ
side_of s i = head_of (read_of s i) ++ arguments_of s i ++ field (times_of s i)

-- ---- how it differs

-- 01's five classes; a row that is damaged has none
unfoldable pub class_text : Option Class → List ℕ
class_text (Some Blank) = ascii "blank"
class_text (Some Finite) = ascii "finite"
class_text (Some PlusInfinity) = ascii "+inf"
class_text (Some MinusInfinity) = ascii "-inf"
class_text (Some Refused) = ascii "refused"
class_text None = ascii "none"

-- words and a class
unfoldable pub named_class : List ℕ → Option Class → List ℕ
named_class words c = words ++ class_text c

-- how far apart, from what class to what, or the same one
unfoldable pub change_text : Change → List ℕ
change_text Same = []
change_text (Moved from to) = named_class (ascii "from ") from ++ named_class (ascii " to ") to ++ end
change_text (Alike class) = named_class (ascii "same ") class ++ end
change_text (First first) = ascii "steps " ++ field first ++ ascii "-\n"
change_text (Steps first second) = ascii "steps " ++ field first ++ last second

-- ---- the lines

-- the line of a row that differs: its number, the old row, the new row, and how they differ
unfoldable pub row_text : List ℕ → List ℕ → ℕ → List ℕ
row_text s t i = field i ++ side_of s i ++ side_of t i ++ change_text (change_of s t i)

-- the line of row i; one whose bytes agree has none
unfoldable pub line_of : List ℕ → List ℕ → ℕ → List ℕ
line_of s t i =
    when agree s t i gives [] else
    row_text s t i

-- the lines of the first n rows
unfoldable pub lines_of : List ℕ → List ℕ → ℕ → List ℕ
lines_of s t zero = []
lines_of s t (suc n) = lines_of s t n ++ line_of s t n

-- ---- the end

-- a whole number in hex at the line's end, a sign in front where it is below zero
abbrev pub whole_last : ℤ → List ℕ
whole_last z = signed_hex (below_zero z) (nat_abs z) ++ end

-- "the difference of the two exact totals, as a signed whole number in hex, and the count of differing rows"
unfoldable pub end_of : List ℕ → List ℕ → List ℕ
end_of s t = (ascii "difference " ++ whole_last (growth_of s t)) ++ (ascii "rows " ++ last (changes s t (rows_of s)))

-- all that is printed of two sheets that are not refused
unfoldable pub text_of : List ℕ → List ℕ → List ℕ
text_of s t = lines_of s t (rows_in s) ++ end_of s t

-- ---- refusals

-- what stands in front of a refused file's name, or of the line's end where none is named: refused 7 NAME, refused 13, refused 10 row I NAME
unfoldable pub stop_text : ℕ → ℕ → List ℕ
stop_text refusal row =
    when eqb refusal 13 gives ascii "refused 13" else
    when eqb refusal 10 gives ascii "refused 10 row " ++ field row else
    ascii "refused 7 "

-- the name of the file that it is about; nothing where it is about both
abbrev pub name_in : List ℕ → List ℕ → Stop → List ℕ
name_in old new (NotASheet Old) = old
name_in old new (NotASheet New) = new
name_in old new Unequal = []
name_in old new (Damaged Old i) = old
name_in old new (Damaged New i) = new

-- the line of a refusal: the file that it is about stands last, by the name that was given
unfoldable pub refused_text : List ℕ → List ℕ → Stop → List ℕ
refused_text old new q = stop_text (number_of (Err q)) (row_of q) ++ name_in old new q ++ end
