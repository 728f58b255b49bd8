-- The steps of reading: digits held in 128 bits, and their rounding. Definitions only.
use Rattle.std.specs.Prelude.{ℕ, ◌+◌, ◌*◌, ◌-◌, ◌^◌, ◌≤◌, ◌<◌, Bool, false, ◌||◌, Option, Some, None, List, [], ◌∷◌, ltb, Float}
use Rattle.laws.specs.Ladder.{when◌gives◌else◌}
use Rattle.bits.specs.Rounded.{Kept, rounded_of}
use Rattle.hexfloat.specs.declared.digits.Held.{Held}
use Rattle.hexfloat.specs.Reading.{hex_digit_of}

abbrev pub no_digits : Held
no_digits = record { digits = 0; more = false; dropped = 0 }

-- one more digit: into the 128 bits, or dropped where they are full
unfoldable pub with_digit : Held → ℕ → Held
with_digit h d =
    when ltb h.digits (2 ^ 124) gives record { digits = h.digits * 16 + d; more = h.more; dropped = h.dropped } else
    record { digits = h.digits; more = h.more || ltb 0 d; dropped = h.dropped + 1 }

-- digits after those held; none where a byte is no digit
unfoldable pub held_from : Held → List ℕ → Option Held
held_from h [] = Some h
held_from h (x ∷ xs) =
    when ltb (hex_digit_of x) 16 gives held_from (with_digit h (hex_digit_of x)) xs else
    None

-- what is held, times 2 ^ up / 2 ^ down, to the nearest f64; so far down it is nothing
unfoldable pub scaled_of : Bool → Held → ℕ → ℕ → Float
scaled_of negative h up down =
    when ltb (2340 + up) down gives rounded_of negative 0 false 0 else
    rounded_of negative h.digits h.more (2340 + up - down + 4 * h.dropped)

-- n is the number held: its first 128 bits, and all of it where nothing was dropped
pub record Holds (n : ℕ) (h : Held) : Type 0 where
  pub kept : Kept n h.digits (4 * h.dropped) h.more
  pub full : 0 < h.dropped → 2 ^ 124 ≤ h.digits

-- digits held spell this number; or a byte was no digit, and there is none
unfoldable pub Leads : Option ℕ → Option Held → Type 0
Leads None None = Unit {0}
Leads None (Some h) = ⊥
Leads (Some n) None = ⊥
Leads (Some n) (Some h) = Holds n h
