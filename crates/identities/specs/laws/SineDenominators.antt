-- Every denominator of Series is above 0, so that a comparison by cross-multiplication means what it says. Assumes nothing.
use Rattle.std.specs.Prelude.{ℕ, zero, suc, ◌+◌, ◌<◌}
use Rattle.std.proofs.Common.{mul-pos, zero-lt-suc}
use Rattle.std.proofs.Math.Nat.{one-le-pow}
use Rattle.angle.specs.Series.{factorial, taylor}

factorial_pos : (n : ℕ) → 0 < factorial n
unfolding factorial
factorial_pos zero = zero-lt-suc 0
factorial_pos (suc n) = mul-pos (zero-lt-suc n) (factorial_pos n)

pub taylor_pos : (p q n k : ℕ) → 0 < q → (0 < (taylor p q n k).added.den) × (0 < (taylor p q n k).taken.den)
unfolding taylor
taylor_pos p q n zero h = (zero-lt-suc 0, zero-lt-suc 0)
taylor_pos p q n (suc k) h = let r = taylor_pos p q (n + 2) k h in (mul-pos (mul-pos (factorial_pos n) (one-le-pow n q h)) r.1, r.0)
