-- A quotient of whole numbers, cut, in units of 2^-64. Definitions only.
use Rattle.std.specs.Prelude.{ℕ, ◌*◌, ◌/◌, ◌^◌, ◌&&◌, nat_lt}
use Rattle.laws.specs.Ladder.{when◌gives◌else◌}

-- a / b in units of 2^-64, cut, where a / b is below 1 and b has at most 56 digits
unfoldable pub quotient_of : ℕ → ℕ → ℕ
quotient_of a b =
    when nat_lt a b && nat_lt b (2 ^ 56) gives a * 2 ^ 64 / b else
    0
