-- RF as it was before its mean became plain, and what the functions ask of RF where they do not scale. Definitions only.
use Rattle.std.specs.Prelude.{◌≡◌, T, true, false, ◌||◌, Float}
use Rattle.std.specs.Float.{binary64}
use Rattle.std.specs.Float.Ieee.{fits}
use Rattle.std.specs.Float.Ieee.Scale.{finite}
use Rattle.laws.specs.Arithmetic.{◌⊕◌, ◌⊖◌, ◌⊗◌, ◌⊘◌, ◌<·◌, ◌≠·◌, +0, 1·0, 3·0, 4·0}
use Rattle.scaling.specs.Clear.{ClearSum, ClearQuotient}
use Rattle.whole.specs.Whole.{magnitude_of}
use Rattle.carlson.specs.Loop.{duplicated}
use Rattle.carlson.specs.Series.{larger_of}
use Rattle.carlson.specs.declared.Outcome.{Outcome}
use Rattle.rf.specs.declared.State.{State}
use Rattle.rf.specs.Rf.{stops_of, round_of, closed_of, rf_of}
use Rattle.answer.specs.Answer.{value_of}
use Rattle.answer.specs.Settle.{infinite_of}
use Rattle.angle.specs.Sine.{sine_of}
use Rattle.angle.specs.Cosine.{cosine_of}
use Rattle.incomplete.specs.Period.{folded_of}
use Rattle.incomplete.specs.Scaling.{large_of}
use Rattle.ellipeinc.specs.Ellipeinc.{own_of, cancelling}
use Rattle.ellipf.specs.Ellipf.{middle_of}

-- ---- the mean was formed by quarters, 4·((x/4 + y/4 + z/4)/3), so that no sum overflows

abbrev pub quartered : Float → Float → Float → Float
quartered x y z = (x ⊘ 4·0 ⊕ y ⊘ 4·0 ⊕ z ⊘ 4·0) ⊘ 3·0

abbrev pub mean_before : Float → Float → Float → Float
mean_before x y z = 4·0 ⊗ quartered x y z

unfoldable pub start_with : Float → Float → Float → Float → State
start_with mean x y z = record { x = x; y = y; z = z; mean = mean; distance = larger_of (larger_of (magnitude_of (mean ⊖ x)) (magnitude_of (mean ⊖ y))) (magnitude_of (mean ⊖ z)) }

unfoldable pub rf_before : Float → Float → Float → Outcome
rf_before x y z = duplicated stops_of round_of closed_of (start_with (mean_before x y z) x y z)

-- value, stop test and rounds of RF are what they were
abbrev pub Same : Float → Float → Float → Type 0
Same x y z = rf_before x y z ≡ rf_of x y z

-- no quarter is subnormal, and nothing is infinite
pub record ClearMeans (x y z : Float) : Type 0 where
  pub finite_x : T (finite x)
  pub finite_y : T (finite y)
  pub finite_z : T (finite z)
  pub quarter_x : ClearQuotient x 4·0
  pub quarter_y : ClearQuotient y 4·0
  pub quarter-z : ClearQuotient z 4·0
  pub two : ClearSum x y
  pub three : ClearSum (x ⊕ y) z
  pub two_quarters : ClearSum (x ⊘ 4·0) (y ⊘ 4·0)
  pub three_quarters : ClearSum (x ⊘ 4·0 ⊕ y ⊘ 4·0) (z ⊘ 4·0)
  pub mean : ClearQuotient (x ⊕ y ⊕ z) 3·0
  pub mean_quarters : ClearQuotient (x ⊘ 4·0 ⊕ y ⊘ 4·0 ⊕ z ⊘ 4·0) 3·0
  pub finite_quartered : T (finite (quartered x y z))
  pub finite_before : T (finite (mean_before x y z))

-- ---- what ellipeinc and ellipf make of φ: the reduced angle, its sine and cosine, C = 1 / sin² and C1 = cos² / sin²

abbrev pub angle_of : Float → Float
angle_of φ = (folded_of (magnitude_of φ)).angle

abbrev pub sin_of : Float → Float
sin_of φ = value_of (sine_of (angle_of φ))

abbrev pub cos_of : Float → Float
cos_of φ = value_of (cosine_of (angle_of φ))

abbrev pub c_of : Float → Float
c_of sine = 1·0 ⊘ (sine ⊗ sine)

abbrev pub c1_of : Float → Float → Float
c1_of sine cosine = cosine ⊗ cosine ⊘ (sine ⊗ sine)

-- the two of φ
abbrev pub C : Float → Float
C φ = c_of (sin_of φ)

abbrev pub C1 : Float → Float
C1 φ = c1_of (sin_of φ) (cos_of φ)

-- ---- every RF that the three functions ask without scaling is as it was

-- φ is finite, m an f64 and no NaN
pub record Given (φ m : Float) : Type 0 where
  pub finite_φ : T (finite φ)
  pub f64_m : T (fits binary64 m)
  pub number_m : (m ≠· m) ≡ false

pub record AsBefore : Type 0 where
  -- ellippi, wherever it asks RF (from_rest_of)
  pub ellippi : (m : Float) → T (fits binary64 m) → T (finite m) → Same +0 (1·0 ⊖ m) 1·0
  -- ellipeinc for m < 0, C and |m| not above 2^200 (below_of)
  pub ellipeinc_below : (φ m : Float) → Given φ m → large_of m (C φ) ≡ false → Same (C1 φ) (C φ ⊖ m) (C φ)
  -- ellipeinc for 0 < m ≤ 2^12, where the angle does not stand for its own integral (aboveOf)
  pub ellipeinc_above : (φ m : Float) → Given φ m → own_of (angle_of φ) m ≡ false → (m <· +0 || cancelling <· m) ≡ false → Same (C1 φ) (C φ) (C φ ⊖ m)
  -- ellipf, C and |m| not above 2^200
  pub ellipf_plain : (φ m : Float) → Given φ m → large_of m (C φ) ≡ false → Same (C1 φ) (middle_of m (C φ) (C1 φ)) (C φ)
  -- ellipf, C infinite: the homogeneous form
  pub ellipf_tiny : (φ m : Float) → Given φ m → infinite_of (C φ) ≡ true → Same (cos_of φ ⊗ cos_of φ) (1·0 ⊖ m ⊗ sin_of φ ⊗ sin_of φ) 1·0
