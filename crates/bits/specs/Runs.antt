-- A sum of powers in fixed point. Definitions only.
use Rattle.std.specs.Prelude.{ℕ, zero, suc, ◌+◌, ◌*◌, ◌/◌, ◌^◌}

-- k terms of 1 / n + u / (n + d) + u² / (n + 2 d) + .., u in units of 2^-64, the sum in units of 2^-63, each quotient cut
unfoldable pub run_of : ℕ → ℕ → ℕ → ℕ → ℕ
run_of u n d zero = 0
run_of u n d (suc k) = 2 ^ 63 / n + u * run_of u (n + d) d k / 2 ^ 64
