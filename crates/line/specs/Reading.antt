-- How a line is read, field by field: what the contracts inside the crate cite. Definitions only.
use Rattle.std.specs.Prelude.{ℕ, suc, ◌≡◌, Option, List, [], ◌∷◌, length, drop, get_or, ltb, eqb}
use Rattle.laws.specs.Ladder.{when◌gives◌else◌}
use Rattle.line.specs.Line.{decimal_of, pattern_of, fields_of}

-- how many bytes stand before the first space
unfoldable pub word_of : List ℕ → ℕ
word_of [] = 0
word_of (x ∷ xs) =
    when eqb x 32 gives 0 else
    suc (word_of xs)

-- a field's number: decimal in base 10, a bit pattern in any other
unfoldable pub number_of : ℕ → List ℕ → Option ℕ
number_of base s =
    when eqb base 10 gives decimal_of s else
    pattern_of s

-- the fields from a place of the line on; past its end there are none
unfoldable pub fields_from : List ℕ → ℕ → List (List ℕ)
fields_from s from =
    when ltb (length s) from gives [] else
    fields_of (drop from s)

-- the first field from a place on was read, a missing one as an empty one, and the others follow at next
pub record Taken (s : List ℕ) (from base : ℕ) (number : Option ℕ) (next : ℕ) : Type 0 where
  pub first : number ≡ number_of base (get_or (fields_from s from) 0 [])
  pub others : fields_from s next ≡ drop 1 (fields_from s from)
