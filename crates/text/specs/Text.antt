-- Numbers as text. Definitions only.
use Rattle.std.specs.Prelude.{ℕ, zero, suc, ◌+◌, ◌/◌, ◌%◌, Bool, true, false, not, ◌&&◌, List, [], ◌∷◌, ◌++◌, ltb}
use Rattle.laws.specs.Ascii.{ascii}
use Rattle.laws.specs.Ladder.{when◌gives◌else◌}

-- the byte of a digit below 16: '0' to '9', 'a' to 'f'
unfoldable pub glyph_of : ℕ → ℕ
glyph_of d =
    when ltb d 10 gives 48 + d else
    87 + d

-- the last k digits of n in a base, the most significant first; zeros in front of the number only where all k are asked for
unfoldable pub digits_of : Bool → ℕ → ℕ → ℕ → List ℕ
digits_of all base zero n = []
digits_of all base (suc k) n =
    when not all && ltb n base gives glyph_of n ∷ [] else
    digits_of all base k (n / base) ++ (glyph_of (n % base) ∷ [])

-- a number below 2 ^ 64 in decimal
unfoldable pub decimal : ℕ → List ℕ
decimal n = digits_of false 10 20 n

-- a bit pattern in 16 digits
unfoldable pub pattern : ℕ → List ℕ
pattern n = digits_of true 16 16 n

abbrev pub space : List ℕ
space = ascii " "

abbrev pub end : List ℕ
end = ascii "\n"

-- three numbers in decimal, one space apart
unfoldable pub three : ℕ → ℕ → ℕ → List ℕ
three a b c = decimal a ++ space ++ decimal b ++ space ++ decimal c
