-- The leg sheet, byte for byte (01, "The leg sheet"): contents, rows, totals. A row is its 48 bytes, and what it says is read from them. Definitions only.
use Rattle.std.specs.Prelude.{ℕ, ◌+◌, ◌-◌, ◌*◌, ◌%◌, Bool, cond, ◌&&◌, not, List, [], ◌∷◌, ◌++◌, leb, ltb, eqb, length, take, drop, get_or, replicate, Float}
use Rattle.std.specs.Float.{nan, inf, fin}
use Rattle.std.specs.Float.Ieee.{is_nan}
use Rattle.laws.specs.Arithmetic.{float, +0}
use Rattle.laws.specs.Ladder.{when◌gives◌else◌}
use Rattle.answer.specs.Numbers.{last, stored}
use Rattle.total.specs.Total.{N, complement, negative, size_of}
use Rattle.ledger.specs.Bytes.{bytes, number, fields}

-- ---- places and lengths

-- the most rows
abbrev pub most_rows : ℕ
most_rows = 1024

-- where row i starts, and, at i = r, the totals
abbrev pub row_place : ℕ → ℕ
row_place i = 32 + 48 * i

-- the length of a sheet of r rows: 32 bytes of contents, 48 a row, 296 of totals
abbrev pub size_for : ℕ → ℕ
size_for r = 328 + 48 * r

-- ---- contents: two entries of four u32, for the rows and for the totals

-- what the first word says of the rows: 1, as sheets were before they kept times; 3, they keep them (02, [8])
abbrev pub without_times : ℕ
without_times = 1

abbrev pub with_times : ℕ
with_times = 3

-- what the rows are, place, length, how many; and the same of the totals
unfoldable pub entries : ℕ → ℕ → List ℕ
entries k r = k ∷ 32 ∷ 48 * r ∷ r ∷ 2 ∷ row_place r ∷ 296 ∷ 1 ∷ []

-- ---- a row: function, refusal number, times in two bytes, four zeros; then three arguments and two answers, as bit patterns

-- its 48 bytes
abbrev pub Row : Type 0
Row = List ℕ

-- function f, refusal q, times k, and the five patterns xs
unfoldable pub row_bytes : ℕ → ℕ → ℕ → List ℕ → Row
row_bytes f q k xs = (f ∷ q ∷ bytes 2 k) ++ (replicate 4 0 ++ fields 8 xs)

-- function 1 goes out (02, [13]): no new row has it; rows of it that stand are read, counted, totalled, replaced and cleared as any other
abbrev pub withdrawn : ℕ
withdrawn = 1

-- a row of function 0
abbrev pub blank_row : Row
blank_row = replicate 48 0

-- what a row's bytes say: its function, refusal number, how often it was driven, and first answer
unfoldable pub function_in : Row → ℕ
function_in w = get_or w 0 0

unfoldable pub refusal_in : Row → ℕ
refusal_in w = get_or w 1 0

unfoldable pub times_in : Row → ℕ
times_in w = number (take 2 (drop 2 w))

unfoldable pub first_in : Row → Float
first_in w = float (number (take 8 (drop 32 w)))

-- refusal 10's row tests: function above the last, a refusal number that no row stores, a NaN first answer
unfoldable pub sound_of : ℕ → ℕ → Float → Bool
sound_of f q x = leb f last && (stored q && not (is_nan x))

-- function, refusal number and first answer can be those of a row that was stored
abbrev pub sound : Row → Bool
sound w = sound_of (function_in w) (refusal_in w) (first_in w)

-- ---- a row's class, by its place among the counts

abbrev pub blank_class : ℕ
blank_class = 0

abbrev pub finite_class : ℕ
finite_class = 1

abbrev pub plus∞Class : ℕ
plus∞Class = 2

abbrev pub minus∞Class : ℕ
minus∞Class = 3

abbrev pub refused_class : ℕ
refused_class = 4

-- a NaN first answer has no class: the row is damaged
abbrev pub no_class : ℕ
no_class = 5

-- the class that a first answer decides
unfoldable pub kind_of : Float → ℕ
kind_of nan = no_class
kind_of (inf s) = cond s minus∞Class plus∞Class
kind_of (fin s m e) = finite_class

-- "A row of function 0 is blank, else one with a non-zero refusal is refused, else the first answer decides."
unfoldable pub class_of : Row → ℕ
class_of w =
    when eqb (function_in w) 0 gives blank_class else
    when ltb 0 (refusal_in w) gives refused_class else
    kind_of (first_in w)

-- ---- a row's weight in the total: its times multiplied by its first answer, where that is finite

-- the first answer, and +0 where it is not finite
unfoldable pub value_of : Row → Float
value_of w = cond (eqb (class_of w) finite_class) (first_in w) +0

-- the sign and the size, in units of 2^-1074, of what it brings
abbrev pub negative_in : Row → Bool
negative_in w = negative (value_of w)

unfoldable pub size_in : Row → ℕ
size_in w = times_in w * size_of (value_of w)

-- what it brings, modulo N in two's complement
unfoldable pub units_in : Row → ℕ
units_in w = complement (negative_in w) (size_in w) % N

-- the total t with a row's weight taken away and another's added
unfoldable pub retotal : ℕ → Row → Row → ℕ
retotal t old new = (t + (N - units_in old) + units_in new) % N

-- ---- totals: five u32 counts, four zeros, the 272-byte total

unfoldable pub totals : List ℕ → ℕ → List ℕ
totals counts total = fields 4 (counts ++ (0 ∷ [])) ++ bytes 272 total

-- how many rows are of class k
unfoldable pub count : ℕ → List Row → ℕ
count k [] = 0
count k (w ∷ ws) = cond (eqb k (class_of w)) 1 0 + count k ws

-- blank, finite, +∞, -∞, refused, recounted from the rows
abbrev pub counts : List Row → List ℕ
counts ws = count blank_class ws ∷ count finite_class ws ∷ count plus∞Class ws ∷ count minus∞Class ws ∷ count refused_class ws ∷ []

-- the sum of the rows' weights
unfoldable pub sum : List Row → ℕ
sum [] = 0
sum (w ∷ ws) = units_in w + sum ws

-- ---- the sheet of these rows

-- rows one after the other
unfoldable pub flat : List Row → List ℕ
flat [] = []
flat (w ∷ ws) = w ++ flat ws

-- contents, rows, totals
unfoldable pub encode : List Row → List ℕ
encode ws = fields 4 (entries with_times (length ws)) ++ (flat ws ++ totals (counts ws) (sum ws % N))
