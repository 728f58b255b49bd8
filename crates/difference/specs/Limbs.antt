-- What the subtraction of totals goes by. Definitions only.
use Rattle.std.specs.Prelude.{ℕ, ◌+◌, ◌-◌, ltb}
use Rattle.laws.specs.Ladder.{when◌gives◌else◌}
use Rattle.total.specs.Total.{Half}

-- a stored total with half of the modulus added, modulo it: signedOf's number and Half, no less than 0
unfoldable pub raised_of : ℕ → ℕ
raised_of v =
    when ltb v Half gives v + Half else
    v - Half
