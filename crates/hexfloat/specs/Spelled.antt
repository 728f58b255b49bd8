-- The one spelling of each bit pattern (02, [10]): an f64 as C's %a in glibc, inf and -inf, nan: and the pattern. Definitions only.
use Rattle.std.specs.Prelude.{ℕ, zero, suc, ◌*◌, ◌-◌, ◌/◌, ◌%◌, ◌^◌, not, ◌&&◌, List, [], ◌∷◌, ◌++◌, ltb, leb, eqb}
use Rattle.laws.specs.Ascii.{ascii}
use Rattle.laws.specs.Ladder.{when◌gives◌else◌}
use Rattle.text.specs.Text.{glyph_of, decimal, pattern}

-- ---- the parts of a pattern (IEEE 754-2019, 3.4)

abbrev pub field_of : ℕ → ℕ
field_of p = p / 2 ^ 52 % 2 ^ 11

abbrev pub fraction_of : ℕ → ℕ
fraction_of p = p % 2 ^ 52

-- ---- their text

-- '-' for a sign that is set, of a zero too
unfoldable pub sign_text : ℕ → List ℕ
sign_text p =
    when leb (2 ^ 63) p gives ascii "-" else
    []

-- the 52 bits of n from the left, four to a digit, until no more is left; at most k digits
unfoldable pub digits_text : ℕ → ℕ → List ℕ
digits_text zero n = []
digits_text (suc k) n =
    when eqb n 0 gives [] else
    glyph_of (n / 2 ^ 48) ∷ digits_text k (n % 2 ^ 48 * 16)

-- the digit before the point: 0 for zeros and subnormals
unfoldable pub lead_of : ℕ → ℕ
lead_of field =
    when eqb field 0 gives 48 else
    49

-- the point and the digits behind it, where there are any
unfoldable pub behind_text : ℕ → List ℕ
behind_text fraction =
    when eqb fraction 0 gives [] else
    ascii "." ++ digits_text 13 fraction

-- the exponent of 2, in decimal, with a sign: that of the smallest normal f64 for subnormals, 0 for zeros
unfoldable pub exponent_text : ℕ → ℕ → List ℕ
exponent_text field fraction =
    when eqb field 0 && eqb fraction 0 gives ascii "p+0" else
    when eqb field 0 gives ascii "p-1022" else
    when ltb field 1023 gives ascii "p-" ++ decimal (1023 - field) else
    ascii "p+" ++ decimal (field - 1023)

-- a float that is no NaN, without its sign
unfoldable pub size_text : ℕ → ℕ → List ℕ
size_text field fraction =
    when eqb field 2047 gives ascii "inf" else
    ascii "0x" ++ (lead_of field ∷ (behind_text fraction ++ exponent_text field fraction))

-- ---- the spelling

unfoldable pub spelled_of : ℕ → List ℕ
spelled_of p =
    when eqb (field_of p) 2047 && not (eqb (fraction_of p) 0) gives ascii "nan:" ++ pattern p else
    sign_text p ++ size_text (field_of p) (fraction_of p)
