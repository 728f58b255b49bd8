-- Sums whose coefficients are 1 / n, 1 / (n + d), 1 / (n + 2 d), ..: as exact fractions, and cut in fixed point (`run_of`, of bits). Definitions only.
use Rattle.std.specs.Prelude.{ℕ, zero, suc, ◌+◌, ◌*◌, ◌^◌}
unfoldable pub use Rattle.bits.specs.Runs.{run_of}
use Rattle.bounds.specs.Fractions.{Fraction, ◌over◌, ◌⊞◌}

-- k terms of t^n / n + t^(n + d) / (n + d) + .. at t = p / q
unfoldable pub powers : ℕ → ℕ → ℕ → ℕ → ℕ → Fraction
powers p q n d zero = 0 over 1
powers p q n d (suc k) = (p ^ n over (n * q ^ n)) ⊞ powers p q (n + d) d k
