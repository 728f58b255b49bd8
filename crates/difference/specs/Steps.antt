-- The distance of two f64s, "counted in f64 steps, with -0 and +0 one place and neighbours one step apart" (02, [5]). Definitions only.
use Rattle.std.specs.Prelude.{ℕ, ◌-◌, ◌^◌, ltb, ℤ, pos, neg_ℤ, ◌-ℤ◌, nat_abs}
use Rattle.laws.specs.Ladder.{when◌gives◌else◌}

-- the place of a bit pattern on the line of the f64s: from 0 up for those without a sign, from 0 down for those with one
unfoldable pub place_of : ℕ → ℤ
place_of p =
    when ltb p (2 ^ 63) gives pos p else
    neg_ℤ (pos (p - 2 ^ 63))

-- how many steps two patterns lie apart
unfoldable pub steps_of : ℕ → ℕ → ℕ
steps_of p q = nat_abs (place_of p -ℤ place_of q)
