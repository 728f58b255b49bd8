-- The exact total (01, "The leg sheet"): a number of units of 2^-1074, kept modulo 2^2176 in two's complement, in 34 limbs of 64 bits, least limb first. Definitions only.
use Rattle.std.specs.Prelude.{ℕ, zero, suc, ◌+◌, ◌-◌, ◌*◌, ◌/◌, ◌%◌, ◌^◌, Bool, true, false, cond, List, [], ◌∷◌, nat_le, Float}
use Rattle.std.specs.Float.{nan, inf, fin, binary64}
use Rattle.std.specs.Float.Ieee.{up, down, neg, round}
use Rattle.total.specs.declared.rounding.Signed.{Signed}

-- the modulus
unfoldable pub N : ℕ
N = 2 ^ 2176

-- from here on a total stands for a negative number, v - N
unfoldable pub Half : ℕ
Half = 2 ^ 2175

-- the number that limbs stand for
unfoldable pub val : List ℕ → ℕ
val [] = 0
val (x ∷ xs) = x + 0x1_0000_0000_0000_0000 * val xs

-- the k lowest limbs of a number
unfoldable pub lowest : ℕ → ℕ → List ℕ
lowest zero n = []
lowest (suc k) n = n % 0x1_0000_0000_0000_0000 ∷ lowest k (n / 0x1_0000_0000_0000_0000)

-- the limbs of a total
unfoldable pub limbs_of : ℕ → List ℕ
limbs_of n = lowest 34 n

-- a number of units with its sign, in two's complement
unfoldable pub complement : Bool → ℕ → ℕ
complement s n = cond s (N - n) n

-- a finite f64's sign, and its size in units of 2^-1074: a whole number (`whole` of Units)
unfoldable pub negative : Float → Bool
negative nan = false
negative (inf s) = false
negative (fin s m e) = s

unfoldable pub size_of : Float → ℕ
size_of nan = 0
size_of (inf s) = 0
size_of (fin s m e) = m * up e * 2 ^ 1074 / down e

-- what a value brings to the total, k times over: nothing, where it is NaN or an infinity
unfoldable pub units_of : ℕ → Float → ℕ
units_of k x = complement (negative x) (k * size_of x) % N

-- the total t with x added k times
unfoldable pub add_of : ℕ → ℕ → Float → ℕ
add_of t k x = (t + units_of k x) % N

-- and with x taken away k times, which is -x added
unfoldable pub take_of : ℕ → ℕ → Float → ℕ
take_of t k x = (t + units_of k (neg x)) % N

-- the number that a total stands for: its size, below zero from Half on
unfoldable pub size_of_total : ℕ → ℕ
size_of_total v = cond (nat_le Half v) (N - v) v

-- sign and size, the size in limbs
unfoldable pub signed_of : ℕ → Signed
signed_of v = record { negative = nat_le Half v; limbs = limbs_of (size_of_total v) }

-- the total rounded once: to the nearest f64, ties to even, too large is infinite, zero is +0
unfoldable pub round_total : ℕ → Float
round_total v = cond (nat_le Half v) (round binary64 true (N - v) (2 ^ 1074)) (round binary64 false v (2 ^ 1074))
