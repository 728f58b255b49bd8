-- The sum that the code runs is the definition's. Assumes nothing.
use mathlib.Core.Path.{◌≡◌, refl, ap}
use Prim.Native.Nat.{ℕ, zero, suc, ◌+◌, ◌*◌, ◌/◌, ◌^◌}
use Rattle.bits.specs.Runs.{run_of}
use Rattle.logarithm.specs.Logarithm.{odds_of}

pub run_odds : (w n k : ℕ) → run_of w n 2 k ≡ odds_of w n k
unfolding run_of odds_of
run_odds w n zero = refl
run_odds w n (suc k) = ap (λ (z : ℕ). 2 ^ 63 / n + w * z / 2 ^ 64) (run_odds w (n + 2) k)
