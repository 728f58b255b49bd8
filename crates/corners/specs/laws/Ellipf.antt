-- ellipf at single points, by computing: the order of its tests, its limits, and a value. Assumes nothing.
use Rattle.std.specs.Prelude.{◌≡◌, refl, true, false, Ok, Err}
use Rattle.std.specs.Float.{nan}
use Rattle.std.specs.Float.Ieee.{of_bits, neg, add, sub, sum, mul, div, rem, lt, le, eq, ne, round}
use Rattle.laws.specs.Arithmetic.{dec, float, +0, +∞, -∞, π/2, ½, 1·0, 2·0}
use Rattle.corners.specs.Most.{most}
use Rattle.answer.specs.Answer.{value_of}
use Rattle.answer.specs.declared.Answer.TheVariants.{One, Infinite}
use Rattle.answer.specs.declared.Refusal.TheVariants.{NotANumber, Beyond, Unmet, NotFinite}
use Rattle.root.specs.Root.{root_of}
use Rattle.whole.specs.Whole.{magnitude_of, round_of}
use Rattle.angle.specs.Alternating.{square_of, alternating_of, up_to_four}
use Rattle.angle.specs.Sine.{sine_at, sine_of}
use Rattle.angle.specs.Cosine.{cosine_by, cosine_at, cosine_of}
use Rattle.legendre.specs.Mean.{arithmetic_of, geometric_of, goes_on_of}
use Rattle.legendre.specs.Mean as Mean
use Rattle.legendre.specs.Ellipk.{goes_on, next_of, k_from_of, last_means_of, k_mean_of, k_unchecked_of}
use Rattle.carlson.specs.Loop as Loop
use Rattle.carlson.specs.Series.{larger_of}
use Rattle.rf.specs.Rf as Rf
use Rattle.answer.specs.Settle.{infinite_of, finite_of, settled_of, handed_of}
use Rattle.incomplete.specs.Period.{folded_of}
use Rattle.incomplete.specs.Scaling.{large_of}
use Rattle.ellipf.specs.Ellipf.{signum_of, pole_of, far_of, middle_of, recipe_of, closed_of, with_periods_of, reduced_of, counted_of, ellipf_of}

pub record EllipfCorners : Type 0 where
  -- NaN comes first, before m = 0
  pub nan-amplitude : ellipf_of nan +0 ≡ Err NotANumber
  pub nan-parameter : ellipf_of +0 nan ≡ Err NotANumber
  -- and m = 0 before the rest
  pub infinite_at_0 : ellipf_of -∞ +0 ≡ Ok (Infinite true)
  -- m ≥ 1: |φ| ≥ π/2, an infinite φ too, or m·sin²φ ≥ 1
  pub quarter-at_1 : ellipf_of π/2 1·0 ≡ Err Beyond
  pub infinite_at_2 : ellipf_of +∞ 2·0 ≡ Err Beyond
  pub one-at_2 : ellipf_of 1·0 2·0 ≡ Err Beyond
  -- large φ: infinite, overflowing, and K(-∞) which is NaN
  pub infinite_at-half : ellipf_of -∞ ½ ≡ Ok (Infinite true)
  pub overflow : ellipf_of most ½ ≡ Ok (Infinite false)
  pub far-at_minus_infinity : ellipf_of (float 0x4340_0000_0000_0000) -∞ ≡ Err NotFinite
  -- -0 keeps its sign
  pub minus_zero : ellipf_of (float 0x8000_0000_0000_0000) ½ ≡ Ok (One (float 0x8000_0000_0000_0000))
  -- no finite answer: 0 at -∞, else 5 where RF is not met
  pub one-at_minus_infinity : ellipf_of 1·0 -∞ ≡ Ok (One +0)
  pub zero-at_infinity : ellipf_of +0 +∞ ≡ Err Unmet
  -- rounds (02, [3]): 3 comes before the recipe; RF that is not met has made its 64, also where the answer is 0
  pub three_unasked : counted_of 1·0 2·0 ≡ record { answer = Err Beyond; rounds = 0 }
  pub bottom_unmet : counted_of 1·0 -∞ ≡ record { answer = Ok (One +0); rounds = 64 }
  -- 1 / sin² is finite, and three times it is not: RF's mean is of quarters
  pub narrow : ellipf_of (float 0x1ff4_0000_0000_0000) ½ ≡ Ok (One (float 0x1ff4_0000_0000_0000))
  -- F(π/4, 1/2) = 0.826017876249245..
  pub eighth : ellipf_of (float 0x3fe9_21fb_5444_2d18) ½ ≡ Ok (One (float 0x3fea_6ebd_0a8c_dc3a))

pub ellipf_corners : EllipfCorners
unfolding large_of ellipf_of counted_of signum_of pole_of far_of middle_of recipe_of closed_of with_periods_of reduced_of folded_of infinite_of finite_of settled_of handed_of value_of sine_of sine_at cosine_of cosine_by cosine_at up_to_four square_of alternating_of k_unchecked_of k_mean_of last_means_of k_from_of next_of goes_on goes_on_of arithmetic_of geometric_of Mean.iterate Loop.iterate Loop.duplicated larger_of Rf.rf_of Rf.start_of Rf.stops_of Rf.next_of Rf.round_of Rf.closed_of Rf.series_of root_of magnitude_of round_of dec of_bits add sub sum mul div rem neg lt le eq ne round
ellipf_corners =
    record {
      nan-amplitude = refl;
      nan-parameter = refl;
      infinite_at_0 = refl;
      quarter-at_1 = refl;
      infinite_at_2 = refl;
      one-at_2 = refl;
      infinite_at-half = refl;
      overflow = refl;
      far-at_minus_infinity = refl;
      minus_zero = refl;
      one-at_minus_infinity = refl;
      zero-at_infinity = refl;
      three_unasked = refl;
      bottom_unmet = refl;
      narrow = refl;
      eighth = refl;
    }
