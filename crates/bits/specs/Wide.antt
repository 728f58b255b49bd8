-- A number of two limbs of 64 places. Definitions only.
use Rattle.std.specs.Prelude.{◌≡◌, ℕ, ◌+◌, ◌*◌, ◌^◌, ◌<◌}

abbrev pub val : ℕ → ℕ → ℕ
val high low = high * 2 ^ 64 + low

-- n in two limbs
pub record Halves (n high low : ℕ) : Type 0 where
  pub whole : val high low ≡ n
  pub high_fits : high < 2 ^ 64
  pub low_fits : low < 2 ^ 64
