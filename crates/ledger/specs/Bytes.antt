-- Numbers in bytes, least byte first. Definitions only.
use Rattle.std.specs.Prelude.{ℕ, zero, suc, ◌+◌, ◌*◌, ◌/◌, ◌%◌, List, [], ◌∷◌, ◌++◌, leb, length, take, drop}
use Rattle.laws.specs.Ladder.{when◌gives◌else◌}

-- the k lowest bytes of n
unfoldable pub bytes : ℕ → ℕ → List ℕ
bytes zero n = []
bytes (suc k) n = n % 256 ∷ bytes k (n / 256)

-- the number that bytes stand for
unfoldable pub number : List ℕ → ℕ
number [] = 0
number (b ∷ bs) = b + 256 * number bs

-- numbers one after the other, of w bytes each
unfoldable pub fields : ℕ → List ℕ → List ℕ
fields w [] = []
fields w (x ∷ xs) = bytes w x ++ fields w xs

-- the first n numbers of w bytes each that stand in s
unfoldable pub read : ℕ → ℕ → List ℕ → List ℕ
read w zero s = []
read w (suc n) s = number (take w s) ∷ read w n (drop w s)

-- the number in eight bytes from a place on, a bit pattern; 0 where they are not all there
unfoldable pub pattern_at : List ℕ → ℕ → ℕ
pattern_at s at = when leb (at + 8) (length s) gives number (take 8 (drop at s)) else 0
