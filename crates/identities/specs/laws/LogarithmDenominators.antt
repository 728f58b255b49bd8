-- Every denominator of Series is above 0, so that a comparison by cross-multiplication means what it says. Assumes nothing.
use Rattle.std.specs.Prelude.{ℕ, zero, suc, ◌+◌, ◌-◌, ◌^◌, ◌<◌}
use Rattle.std.proofs.Common.{mul-pos, zero-lt-suc, arith, pow_pos}
use Rattle.std.proofs.Math.Nat.{one-le-pow}
use Rattle.logarithm.specs.Series.{odds, places, logarithmic}

pub odds_pos : (p q n k : ℕ) → 0 < q → 0 < n → 0 < (odds p q n k).den
unfolding odds
odds_pos p q n zero h l = zero-lt-suc 0
odds_pos p q n (suc k) h l = mul-pos (mul-pos l (one-le-pow n q h)) (odds_pos p q (n + 2) k h (more n))
  where
    more : (n : ℕ) → 0 < n + 2
    more n = omega arith

pub logarithmic_pos : (N : ℕ) → (0 < (logarithmic N).added.den) × (0 < (logarithmic N).taken.den)
unfolding logarithmic
logarithmic_pos N =
    let W = 2 ^ places N in
    let h : 0 < N + W = sum N W (pow_pos (places N)) in
    let t = odds_pos 1 3 1 21 (zero-lt-suc 2) (zero-lt-suc 0) in
    (mul-pos t (odds_pos (N - W) (N + W) 1 21 h (zero-lt-suc 0)), mul-pos t (odds_pos (W - N) (N + W) 1 21 h (zero-lt-suc 0)))
  where
    sum : (x y : ℕ) → 0 < y → 0 < x + y
    sum x y h = omega arith
