-- RF's mean was formed by quarters once, 4·((x/4 + y/4 + z/4)/3), so that no sum overflows. The plain mean has the same bits wherever no quarter is subnormal and no sum is infinite, and so has RF. Assumes nothing.
use Rattle.std.specs.Prelude.{◌≡◌, refl, Bool, ℕ, ◌*◌, ◌^◌, T, Float}
use Rattle.std.proofs.Common.{sym, ap, ◌∙◌, mul-one, pow_pos}
use Rattle.std.proofs.Math.Nat.{eq_of_mul-eq-mul_right}
use Rattle.std.specs.Float.{nan, inf, fin}
use Rattle.std.specs.Float.Ieee.{down, binary64, add, sum, mul, div, round, of_bits, fits}
use Rattle.std.specs.Float.Ieee.Exact.{HasValue}
use Rattle.std.specs.Float.Ieee.Fits.{down_pos, mul-fits, div-fits}
use Rattle.laws.specs.Arithmetic.{◌⊕◌, ◌⊘◌, +0, 1·0, 2·0, 3·0, 4·0}
use Rattle.scaling.specs.Before.{quartered, mean_before, start_with, rf_before, Same, ClearMeans}
use Rattle.laws.specs.laws.Exact.{round_of_value}
use Rattle.scaling.specs.laws.Operations.{Times, times-add, times_over, multiplied, undivided}
use Rattle.carlson.specs.Loop.{duplicated}
use Rattle.rf.specs.Rf.{start_of, stops_of, round_of, closed_of, rf_of}

-- ---- one float has one value

units_unique : (x : Float) (s t : Bool) (n m c : ℕ) → HasValue x s n c → HasValue x t m c → (s ≡ t) × (n ≡ m)
units_unique nan s t n m c v w = absurd v
units_unique (inf r) s t n m c v w = absurd v
units_unique (fin r k e) s t n m c v w = (sym v.0 ∙ w.0, eq_of_mul-eq-mul_right (down e) (down_pos e) n m (sym v.1 ∙ w.1))

-- what is 2^i times the same is the same
times_unique : {i : ℕ} {x y z : Float} → T (fits binary64 y) → T (fits binary64 z) → Times i 0 x y → Times i 0 x z → y ≡ z
times_unique {i} {x} {y} {z} fy fz t u =
    let q = units_unique x t.sign u.sign t.before u.before (2 ^ 1074) t.first u.first in
    let a : t.after ≡ u.after = sym (mul-one t.after) ∙ sym t.ratio ∙ ap (λ (n : ℕ). n * 2 ^ i) q.1 ∙ u.ratio ∙ mul-one u.after in
    sym (round_of_value binary64 y t.sign t.after (2 ^ 1074) (pow_pos 1074) fy t.second)
    ∙ (λ j. round binary64 (q.0 j) (a j) (2 ^ 1074))
    ∙ round_of_value binary64 z u.sign u.after (2 ^ 1074) (pow_pos 1074) fz u.second

-- ---- RF sees the mean alone
pub same_mean : (x y z : Float) → mean_before x y z ≡ (x ⊕ y ⊕ z) ⊘ 3·0 → Same x y z
unfolding rf_before rf_of start_with start_of
same_mean x y z e = ap (λ (m : Float). duplicated stops_of round_of closed_of (start_with m x y z)) e

-- ---- the two means

module _ (x y z : Float) (fx : T (fits binary64 x)) (fy : T (fits binary64 y)) (fz : T (fits binary64 z)) (c : ClearMeans x y z) where
  pub mean_same : mean_before x y z ≡ (x ⊕ y ⊕ z) ⊘ 3·0
  unfolding of_bits fits
  mean_same =
      let tx = undivided 2 4·0 x (refl, refl) c.finite_x fx c.quarter_x in
      let ty = undivided 2 4·0 y (refl, refl) c.finite_y fy c.quarter_y in
      let tz = undivided 2 4·0 z (refl, refl) c.finite_z fz c.quarter-z in
      let sum = times-add (times-add tx ty c.two_quarters c.two) tz c.three_quarters c.three in
      let mean = times_over 3·0 tt tt sum c.mean_quarters c.mean in
      times_unique (mul-fits binary64 4·0 (quartered x y z)) (div-fits binary64 (x ⊕ y ⊕ z) 3·0)
      (multiplied 2 4·0 (quartered x y z) (refl, refl) c.finite_quartered (div-fits binary64 (x ⊘ 4·0 ⊕ y ⊘ 4·0 ⊕ z ⊘ 4·0) 3·0) c.finite_before) mean

  pub rf_as_before : Same x y z
  rf_as_before = same_mean x y z mean_same

-- there are such arguments, a zero among them
pub clear_point : ClearMeans 1·0 +0 2·0
unfolding add sum mul div round of_bits
clear_point = record { finite_x = tt; finite_y = tt; finite_z = tt; quarter_x = tt; quarter_y = tt; quarter-z = tt; two = tt; three = tt; two_quarters = tt; three_quarters = tt; mean = tt; mean_quarters = tt; finite_quartered = tt; finite_before = tt }
