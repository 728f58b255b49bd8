-- DEMAND 2, in one place to point to: what makes a library that refuses everything, or answers one constant, no library of these definitions. Each public function's
-- contract says that it is its definition (`root_of`, `fused_of`, `ellipk_of`, ..); here is what the definitions are tied to. The bounds of sine, cosine and logarithm
-- against exact fractions stand in the contracts of sine, cosine and logarithm (SineWithin, CosineWithin, LogarithmWithin). Assumes nothing.
use Rattle.std.specs.Prelude.{◌≡◌, Bool, false, ℕ, ◌*◌, ◌^◌, ◌<◌, T, Float}
use Rattle.std.proofs.Math.Path.{refl}
use Rattle.std.specs.Float.{binary64}
use Rattle.std.specs.Float.Ieee.{fits, unlike, sum}
use Rattle.std.specs.Float.Ieee.Exact.{HasValue}
use Rattle.std.specs.Float.Ieee.Positive.{positive}
use Rattle.laws.specs.Arithmetic.{float}
use Rattle.root.specs.Root.{root_of}
use Rattle.root.specs.laws.Meaning.{kept, dropped, Between}
use Rattle.demands.specs.laws.Root.{root_nearest}
use Rattle.fused.specs.Fused.{fused_of}
use Rattle.fused.specs.laws.Meaning.{fused_fraction}
use Rattle.legendre.specs.Ellipk.{ellipk_of}
use Rattle.legendre.specs.Ellipe.{ellipe_of}
use Rattle.legendre.specs.Ellipke.{ellipke_of}
use Rattle.legendre.specs.Promises.{Answers}
use Rattle.legendre.specs.laws.Values.{ellipk_answers, ellipe_answers, ellipke_answers}
use Rattle.sheet.specs.Functions.{counted_of, evaluate_of}

pub record Demand2 : Type 0 where
  -- the root of a positive f64 is the exact root rounded once, ties to even: `Between` holds it to the nearest by squares
  pub root : (x : Float) (s : Bool) (n : ℕ) → T (positive x) → T (fits binary64 x) → HasValue x s n (2 ^ 1074)
      → let k = n * 2 ^ 1074 in HasValue (root_of x) false (kept k * 2 ^ dropped k) (2 ^ 1074) × Between k (kept k) (dropped k)
  -- multiply-add is the exact product and the addend, as one fraction, rounded once
  pub fused : (x y z : Float) (s t u : Bool) (a c b d k g : ℕ) → 0 < c → 0 < d → 0 < g → HasValue x s a c → HasValue y t b d → HasValue z u k g
      → fused_of x y z ≡ sum binary64 (unlike s t) (a * b * g) u (k * (c * d)) (c * d * g)
  -- functions 1, 2 and 3 are the given files' own steps
  pub first : (a b c : ℕ) → evaluate_of 1 a b c ≡ ellipk_of (float a)
  pub second : (a b c : ℕ) → evaluate_of 2 a b c ≡ ellipe_of (float a)
  pub both : (a b c : ℕ) → evaluate_of 3 a b c ≡ ellipke_of (float a)
  -- and they refuse NaN (1) and m > 1 (2), and nothing else
  pub first_answers : Answers ellipk_of
  pub second_answers : Answers ellipe_of
  pub both_answers : Answers ellipke_of

module _ (a b c : ℕ) where
  first_is : evaluate_of 1 a b c ≡ ellipk_of (float a)
  unfolding evaluate_of counted_of
  first_is = refl

  second_is : evaluate_of 2 a b c ≡ ellipe_of (float a)
  unfolding evaluate_of counted_of
  second_is = refl

  both_is : evaluate_of 3 a b c ≡ ellipke_of (float a)
  unfolding evaluate_of counted_of
  both_is = refl

pub demand_2 : Demand2
demand_2 = record {
  root = root_nearest;
  fused = fused_fraction;
  first = first_is;
  second = second_is;
  both = both_is;
  first_answers = ellipk_answers;
  second_answers = ellipe_answers;
  both_answers = ellipke_answers;
}
