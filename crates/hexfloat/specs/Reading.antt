-- What a field of the text says, for every string of bytes (02, [10]; C17, 7.22.1.3 and 6.4.4.2). Definitions only.
use Rattle.std.specs.Prelude.{ℕ, ◌+◌, ◌*◌, ◌-◌, ◌^◌, Bool, true, false, cond, ◌&&◌, ◌||◌, Option, Some, None, List, [], ◌∷◌, ◌++◌, length, take, drop, get_or, ltb, eqb}
use Rattle.std.specs.Float.{binary64}
use Rattle.std.specs.Float.Ieee.{round, to_bits, nan_bits}
use Rattle.laws.specs.Ascii.{ascii}
use Rattle.laws.specs.Ladder.{when◌gives◌else◌}
use Rattle.line.specs.Line.{digit_of, spell_of, pattern_of}

-- ---- bytes

-- whether two strings are one
unfoldable pub same : List ℕ → List ℕ → Bool
same [] [] = true
same [] (y ∷ ys) = false
same (x ∷ xs) [] = false
same (x ∷ xs) (y ∷ ys) = eqb x y && same xs ys

-- a byte, or the other
abbrev pub either : ℕ → ℕ → ℕ → Bool
either a b x = eqb x a || eqb x b

-- how many bytes stand before the first a or b: all, where there is none
unfoldable pub before : ℕ → ℕ → List ℕ → ℕ
before a b [] = 0
before a b (x ∷ xs) =
    when either a b x gives 0 else
    1 + before a b xs

-- what a hex digit of either case is worth; 16 for any other byte
unfoldable pub hex_digit_of : ℕ → ℕ
hex_digit_of b =
    when ltb 64 b && ltb b 71 gives b - 55 else
    digit_of b

-- the same as a value, which any other byte has not
unfoldable pub hex_value : ℕ → Option ℕ
hex_value b =
    when ltb (hex_digit_of b) 16 gives Some (hex_digit_of b) else
    None

-- the number that hex digits spell, after those that spelt n
unfoldable pub hex_of : ℕ → List ℕ → Option ℕ
hex_of n [] = Some n
hex_of n (x ∷ xs) =
    when ltb (hex_digit_of x) 16 gives hex_of (n * 16 + hex_digit_of x) xs else
    None

-- what a number leads to; no number leads to none
unfoldable pub given : Option ℕ → (ℕ → Option ℕ) → Option ℕ
given None next = None
given (Some n) next = next n

-- ---- the exponent

-- its digits: one to six
unfoldable pub power_of : List ℕ → Option ℕ
power_of s =
    when eqb (length s) 0 || ltb 6 (length s) gives None else
    spell_of 10 0 s

-- n / 16 ^ behind times 2 to the exponent that s spells after the p, with a sign or without, rounded once
unfoldable pub scaled_by : Bool → ℕ → ℕ → List ℕ → Option ℕ
scaled_by negative n behind s =
    when eqb (get_or s 0 0) 45 gives given (power_of (drop 1 s)) (λ k. Some (to_bits binary64 (round binary64 negative n (2 ^ (4 * behind + k))))) else
    given (power_of (drop (cond (eqb (get_or s 0 0) 43) 1 0) s)) (λ k. Some (to_bits binary64 (round binary64 negative (n * 2 ^ k) (2 ^ (4 * behind)))))

-- ---- the number

-- how many digits stand behind the point
unfoldable pub behind_of : List ℕ → ℕ
behind_of s = length (drop (before 46 46 s + 1) s)

-- one to 40 digits, with at most one point before, among or behind them: their number without it
unfoldable pub mantissa_of : List ℕ → Option ℕ
mantissa_of s =
    let place = before 46 46 s in
    let all = take place s ++ drop (place + 1) s in
    when eqb (length all) 0 || ltb 40 (length all) gives None else
    hex_of 0 all

-- what follows 0x: digits, and perhaps p or P and an exponent
unfoldable pub float_of : Bool → List ℕ → Option ℕ
float_of negative s =
    let size = before 112 80 s in
    given (mantissa_of (take size s)) λ n.
    when ltb size (length s) gives scaled_by negative n (behind_of (take size s)) (drop (size + 1) s) else
    Some (to_bits binary64 (round binary64 negative n (2 ^ (4 * behind_of (take size s)))))

-- 0x or 0X, and a number
unfoldable pub prefixed_of : Bool → List ℕ → Option ℕ
prefixed_of negative s =
    when eqb (get_or s 0 0) 48 && either 120 88 (get_or s 1 0) gives float_of negative (drop 2 s) else
    None

-- a NaN's pattern, as it stands
unfoldable pub nan_of : List ℕ → Option ℕ
nan_of s = given (pattern_of s) λ p.
    when nan_bits binary64 p gives Some p else
    None

-- a whole field: the bit pattern that it says
unfoldable pub read_of : List ℕ → Option ℕ
read_of s =
    when same s (ascii "inf") gives Some 0x7ff0_0000_0000_0000 else
    when same s (ascii "-inf") gives Some 0xfff0_0000_0000_0000 else
    when same (take 4 s) (ascii "nan:") gives nan_of (drop 4 s) else
    when eqb (get_or s 0 0) 45 gives prefixed_of true (drop 1 s) else
    prefixed_of false (drop (cond (eqb (get_or s 0 0) 43) 1 0) s)
