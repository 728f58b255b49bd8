-- Every RF that ellippi, ellipeinc and ellipf ask without scaling has the bits that it had when its mean was formed by quarters. Assumes nothing.
use Rattle.std.specs.Prelude.{◌≡◌, Bool, true, false, ◌&&◌, ◌||◌, Float}
use Rattle.std.proofs.Math.Path.{refl}
use Rattle.std.proofs.Math.Dec.{T}
use Rattle.std.proofs.Common.{lit≤}
use Rattle.std.specs.Float.{binary64}
use Rattle.std.specs.Float.Ieee.{fits, of_bits, lt, eq, ne, add, sub, sum, mul, div, rem, neg, round}
use Rattle.std.specs.Float.Ieee.Fits.{cond-fits, sub-fits, mul-fits, div-fits}
use Rattle.std.specs.Float.Ieee.Scale.{finite}
use Rattle.laws.specs.Arithmetic.{dec, ◌⊕◌, ◌⊖◌, ◌⊗◌, ◌⊘◌, ◌<·◌, +0, ½, 1·0, float}
use Rattle.laws.specs.laws.Bounds.{Small, Within, looser, wider}
use Rattle.laws.specs.laws.Flags.{holds, fails}
use Rattle.whole.specs.Whole.{magnitude_of, round_of}
use Rattle.answer.specs.Answer.{value_of}
use Rattle.angle.specs.Alternating.{square_of, alternating_of, up_to_four}
use Rattle.angle.specs.Sine.{sine_at, sine_of}
use Rattle.incomplete.specs.Period.{folded_of}
use Rattle.answer.specs.Settle.{infinite_of}
use Rattle.incomplete.specs.Scaling.{large_of}
use Rattle.ellipeinc.specs.Ellipeinc.{own_of, cancelling}
use Rattle.ellipf.specs.Ellipf.{middle_of}
use Rattle.identities.specs.laws.Angles.{folded_reach}
use Rattle.scaling.specs.Before.{Same, angle_of, sin_of, cos_of, C, C1, Given, AsBefore}
use Rattle.scaling.specs.Moderate.{moderate}
use Rattle.scaling.specs.laws.Moderate.{rf_as_before-moderate, moderate_finite, quarter_finite, finite_small}
use Rattle.scaling.specs.laws.Ranges.{Ranged}
use Rattle.scaling.specs.laws.Unbounded.{unbounded_same, product_unbounded, rest_unbounded}
use Rattle.scaling.specs.laws.Sines.{sine_within, cosine_within, sine_square-within}
use Rattle.scaling.specs.laws.Folded.{folded_narrow, not_own}
use Rattle.scaling.specs.laws.Rest.{rest_same}
use Rattle.scaling.specs.laws.Arguments.{c-moderate, c1_moderate, below-moderate, middle_moderate, c2_moderate, tiny-moderate, s2_within, m_small, few_small, magnitude_small}

middle_fits : (m c c1 : Float) → T (fits binary64 (middle_of m c c1))
unfolding middle_of
middle_fits m c c1 = cond-fits binary64 (dec 9 1 <· magnitude_of (c ⊘ m) && magnitude_of (c ⊘ m) <· dec 11 1) (c1 ⊕ 1·0 ⊖ m) (c ⊖ m) (sub-fits binary64 (c1 ⊕ 1·0) m) (sub-fits binary64 c m)

-- ---- ellipeinc and ellipf: sine and cosine of the reduced angle
module _ (φ m : Float) (g : Given φ m) where
  sine : Small 1156 (sin_of φ)
  sine = sine_within (angle_of φ) (folded_reach φ g.finite_φ)

  pub cosine : (t : Bool) × Ranged t 1014 1158 (cos_of φ)
  cosine = cosine_within (angle_of φ) (folded_reach φ g.finite_φ)

  -- where sin² is not below 2^-201, nor |m| above 2^200
  module _ (s2 : Within 873 1238 (sin_of φ ⊗ sin_of φ)) (M : Small 1274 m) where
    c : T (moderate (C φ))
    c = c-moderate (sin_of φ) (cos_of φ) m g.f64_m s2 M

    c1 : T (moderate (C1 φ))
    c1 = c1_moderate (sin_of φ) (cos_of φ) m g.f64_m s2 M cosine.0 cosine.1

    less : T (moderate (C φ ⊖ m))
    less = below-moderate (sin_of φ) (cos_of φ) m g.f64_m s2 M

    middle : T (moderate (middle_of m (C φ) (C1 φ)))
    middle = middle_moderate (sin_of φ) (cos_of φ) m g.f64_m s2 M cosine.0 cosine.1

    below : Same (C1 φ) (C φ ⊖ m) (C φ)
    below = rf_as_before-moderate (C1 φ) (C φ ⊖ m) (C φ) (div-fits binary64 _ _) (sub-fits binary64 _ _) (div-fits binary64 _ _) c1 less c

    above : Same (C1 φ) (C φ) (C φ ⊖ m)
    above = rf_as_before-moderate (C1 φ) (C φ) (C φ ⊖ m) (div-fits binary64 _ _) (div-fits binary64 _ _) (sub-fits binary64 _ _) c1 c less

    plain : Same (C1 φ) (middle_of m (C φ) (C1 φ)) (C φ)
    plain = rf_as_before-moderate (C1 φ) (middle_of m (C φ) (C1 φ)) (C φ) (div-fits binary64 _ _) (middle_fits m (C φ) (C1 φ)) (div-fits binary64 _ _) c1 middle c

  -- so it is where the functions find neither C nor m large
  module _ (l : large_of m (C φ) ≡ false) where
    pub not-tiny : Within 873 1238 (sin_of φ ⊗ sin_of φ)
    not-tiny = s2_within (sin_of φ) m sine g.f64_m g.number_m l

    pub not-huge : Small 1274 m
    not-huge = m_small (sin_of φ) m sine g.f64_m g.number_m l

  -- and where 0 ≤ m ≤ 2^12 and the angle does not stand for its own integral
  module _ (t : (m <· +0 || cancelling <· m) ≡ false) where
    few : Small 1086 m
    few = few_small m g.f64_m g.number_m t

    not-own-tiny : own_of (angle_of φ) m ≡ false → Within 873 1238 (sin_of φ ⊗ sin_of φ)
    not-own-tiny o =
        let a = folded_narrow φ g.finite_φ in
        looser 873 1238 (lit≤ tt) (lit≤ tt) (sine_square-within (angle_of φ) a.sign a.units a.value a.most (not_own m a (magnitude_small few) o))

  -- the homogeneous form: m finite or not
  tiny : infinite_of (C φ) ≡ true → Same (cos_of φ ⊗ cos_of φ) (1·0 ⊖ m ⊗ sin_of φ ⊗ sin_of φ) 1·0
  unfolding of_bits fits
  tiny i = go (finite m) refl
    where
      c2 : T (moderate (cos_of φ ⊗ cos_of φ))
      c2 = c2_moderate (cos_of φ) cosine.0 cosine.1

      s : T (finite (sin_of φ))
      s = finite_small sine

      go : (b : Bool) → finite m ≡ b → Same (cos_of φ ⊗ cos_of φ) (1·0 ⊖ m ⊗ sin_of φ ⊗ sin_of φ) 1·0
      go true e = rf_as_before-moderate (cos_of φ ⊗ cos_of φ) (1·0 ⊖ m ⊗ sin_of φ ⊗ sin_of φ) 1·0 (mul-fits binary64 _ _) (sub-fits binary64 _ _) tt c2 (tiny-moderate (sin_of φ) m sine g.f64_m (holds e) i) tt
      go false e =
          unbounded_same (cos_of φ ⊗ cos_of φ) (1·0 ⊖ m ⊗ sin_of φ ⊗ sin_of φ) 1·0 (moderate_finite (cos_of φ ⊗ cos_of φ) c2) tt (quarter_finite (cos_of φ ⊗ cos_of φ) (mul-fits binary64 _ _) c2) (quarter_finite 1·0 tt tt)
          (rest_unbounded (m ⊗ sin_of φ ⊗ sin_of φ) (product_unbounded (m ⊗ sin_of φ) (sin_of φ) (product_unbounded m (sin_of φ) (fails e) s) s))

pub as_before : AsBefore
as_before = record {
  ellippi = rest_same;
  ellipeinc_below = λ φ m g l. below φ m g (not-tiny φ m g l) (not-huge φ m g l);
  ellipeinc_above = λ φ m g o t. above φ m g (not-own-tiny φ m g t o) (wider 1274 (lit≤ tt) (few φ m g t));
  ellipf_plain = λ φ m g l. plain φ m g (not-tiny φ m g l) (not-huge φ m g l);
  ellipf_tiny = tiny;
}

-- ---- the tests come out so somewhere: at φ = 1 and m = 1/2, and at φ = 2^-600
pub plain_point : Given 1·0 ½ × (large_of ½ (C 1·0) ≡ false) × (own_of (angle_of 1·0) ½ ≡ false) × ((½ <· +0 || cancelling <· ½) ≡ false)
unfolding large_of own_of folded_of sine_of sine_at up_to_four square_of alternating_of value_of magnitude_of round_of of_bits fits lt eq ne add sub sum mul div rem neg round
plain_point = (record { finite_φ = tt; f64_m = tt; number_m = refl }, refl, refl, refl)

-- 2^-600
abbrev pub tiny_φ : Float
tiny_φ = float 0x1a70_0000_0000_0000

pub tiny_point : Given tiny_φ ½ × (infinite_of (C tiny_φ) ≡ true)
unfolding infinite_of folded_of sine_of sine_at up_to_four square_of alternating_of value_of magnitude_of round_of of_bits fits lt eq ne add sub sum mul div rem neg round
tiny_point = (record { finite_φ = tt; f64_m = tt; number_m = refl }, refl)
