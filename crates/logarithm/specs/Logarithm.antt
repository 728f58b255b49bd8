-- The steps of the logarithm: docs/STEPS.md, "Logarithm". Definitions only.
use Rattle.std.specs.Prelude.{◌≡◌, ◌||◌, ℕ, zero, suc, ◌+◌, ◌-◌, ◌*◌, ◌/◌, ◌^◌, ltb, eqb, Float, Result, Ok, Err}
use Rattle.std.specs.Float.{nan, inf, fin, binary64}
use Rattle.std.specs.Float.Ieee.{round}
use Rattle.laws.specs.Ladder.{when◌gives◌else◌}
use Rattle.answer.specs.declared.Answer.{Answer}
use Rattle.answer.specs.declared.Refusal.{Refusal}
use Rattle.answer.specs.declared.Answer.TheVariants.{One}
use Rattle.answer.specs.declared.Refusal.TheVariants.{NotANumber, OutOfRange}
use Rattle.bounds.specs.Close.{distance_of}
use Rattle.logarithm.specs.Series.{units_of, places}

-- k terms of 1 / n + w / (n + 2) + w² / (n + 4) + .., w in units of 2^-64, the sum in units of 2^-63, each quotient cut
unfoldable pub odds_of : ℕ → ℕ → ℕ → ℕ
odds_of w n zero = 0
odds_of w n (suc k) = 2 ^ 63 / n + w * odds_of w (n + 2) k / 2 ^ 64

-- S(a / b) = 2 t (1 + t² / 3 + .. + t⁴⁰ / 41) of t = a / b, in units of 2^-62
unfoldable pub part_of : ℕ → ℕ → ℕ
part_of a b = let t = a * 2 ^ 64 / b in t * odds_of (t * t / 2 ^ 64) 1 21 / 2 ^ 64

-- S(1/3) in units of 2^-62, cut
abbrev pub third : ℕ
third = 3196577161300663914

-- k S(1/3) + S((f - 1) / (f + 1)) of N units of 2^-1074: k = w - 1074, f = N / 2^w
unfoldable pub logarithm_at : ℕ → Float
logarithm_at N =
    let w = places N in
    let a = (w - 1074) * third + part_of (N - 2 ^ w) (N + 2 ^ w) in
    let b = (1074 - w) * third + part_of (2 ^ w - N) (N + 2 ^ w) in
    round binary64 (ltb a b) (distance_of a b) (2 ^ 62)

unfoldable pub logarithm_of : Float → Result Answer Refusal
logarithm_of nan = Err NotANumber
logarithm_of (inf s) = Err OutOfRange
logarithm_of (fin s m e) =
    when s || eqb m 0 gives Err OutOfRange else
    Ok (One (logarithm_at (units_of (fin s m e))))

-- ---- what the steps promise each other

-- n / 2^53 is the f of N units, and above - below its k
pub record Factored (N n above below : ℕ) : Type 0 where
  pub same : N * 2 ^ 53 ≡ n * 2 ^ places N
  pub above_is : above ≡ places N - 1074
  pub below_is : below ≡ 1074 - places N
