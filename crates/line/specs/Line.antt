-- What a line of the program's input says, for every string of bytes (01, "The program reads standard input"). Definitions only.
use Rattle.std.specs.Prelude.{ℕ, suc, ◌+◌, ◌*◌, ◌-◌, ◌^◌, ◌&&◌, Option, Some, None, List, [], ◌∷◌, length, get_or, ltb, leb, eqb}
use Rattle.laws.specs.Ladder.{when◌gives◌else◌}
use Rattle.line.specs.declared.Edit.{Edit}

-- ---- numbers

-- what a digit is worth, '0' to '9' and 'a' to 'f'; 16 for any other byte
unfoldable pub digit_of : ℕ → ℕ
digit_of b =
    when ltb b 48 gives 16 else
    when ltb b 58 gives b - 48 else
    when ltb b 97 gives 16 else
    when ltb b 103 gives b - 87 else
    16

-- the same as a value, which any other byte has not
unfoldable pub digit_value : ℕ → Option ℕ
digit_value b =
    when ltb (digit_of b) 16 gives Some (digit_of b) else
    None

-- the number that the digits of a base spell, after those that spelt n
unfoldable pub spell_of : ℕ → ℕ → List ℕ → Option ℕ
spell_of base n [] = Some n
spell_of base n (x ∷ xs) =
    when ltb (digit_of x) base gives spell_of base (n * base + digit_of x) xs else
    None

-- a decimal number: one to ten digits, and no zero in front of others
unfoldable pub decimal_of : List ℕ → Option ℕ
decimal_of s =
    when eqb (length s) 0 gives None else
    when ltb 10 (length s) gives None else
    when ltb 1 (length s) && eqb (get_or s 0 0) 48 gives None else
    spell_of 10 0 s

-- up to 16 digits of a base up to 16
unfoldable pub few_of : ℕ → List ℕ → Option ℕ
few_of base s =
    when ltb 16 base gives None else
    when ltb 16 (length s) gives None else
    spell_of base 0 s

-- a bit pattern: 16 digits
unfoldable pub pattern_of : List ℕ → Option ℕ
pattern_of s =
    when eqb (length s) 16 gives spell_of 16 0 s else
    None

-- ---- parts

-- x in front of the first part
unfoldable pub onto : ℕ → List (List ℕ) → List (List ℕ)
onto x [] = (x ∷ []) ∷ []
onto x (p ∷ ps) = (x ∷ p) ∷ ps

-- the parts of s between the bytes e, and at its end the parts z
unfoldable pub cut : ℕ → List (List ℕ) → List ℕ → List (List ℕ)
cut e z [] = z
cut e z (x ∷ xs) =
    when eqb x e gives [] ∷ cut e z xs else
    onto x (cut e z xs)

-- the fields of a line, one space apart: one more than it has spaces
unfoldable pub fields_of : List ℕ → List (List ℕ)
fields_of s = cut 32 ([] ∷ []) s

-- ---- a line

-- what a number leads to; no number makes the line malformed
unfoldable pub given : Option ℕ → (ℕ → Option Edit) → Option Edit
given None next = None
given (Some n) next = next n

-- an edit of these six numbers
abbrev pub edit_with : ℕ → ℕ → ℕ → ℕ → ℕ → ℕ → Edit
edit_with row function a b c times = record { row = row; function = function; a = a; b = b; c = c; times = times }

-- six numbers, of which the row fits 32 bits, the function 8 and the times 16
unfoldable pub edit_from : Option ℕ → Option ℕ → Option ℕ → Option ℕ → Option ℕ → Option ℕ → Option Edit
edit_from row function a b c times =
    given row λ row. given function λ function. given a λ a. given b λ b. given c λ c. given times λ times.
    when leb (2 ^ 32) row gives None else
    when leb (2 ^ 8) function gives None else
    when leb (2 ^ 16) times gives None else
    Some (edit_with row function a b c times)

-- an edit: row, function, three arguments, and how often the leg was driven (02, [8]); none where the line is malformed
unfoldable pub line_of : List ℕ → Option Edit
line_of s =
    let field : ℕ → List ℕ = λ k. get_or (fields_of s) k [] in
    when eqb (length (fields_of s)) 6
    gives edit_from (decimal_of (field 0)) (decimal_of (field 1)) (pattern_of (field 2)) (pattern_of (field 3)) (pattern_of (field 4)) (decimal_of (field 5)) else
    None

-- ---- lines of a text

-- how many whole lines these are
unfoldable pub line_ends : List ℕ → ℕ
line_ends [] = 0
line_ends (b ∷ bs) =
    when eqb b 10 gives suc (line_ends bs) else
    line_ends bs
