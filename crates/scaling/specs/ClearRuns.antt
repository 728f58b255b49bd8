-- Where a run of a recipe loses no digits to the ends of the range: every number that it forms is finite, and above 2^-1022 in size or exactly zero. Definitions only.
use Rattle.std.specs.Prelude.{ℕ, zero, suc, Bool, true, false, not, T, Float}
use Rattle.std.specs.Float.Ieee.Scale.{finite}
use Rattle.laws.specs.Arithmetic.{◌⊕◌, ◌⊗◌, 4·0}
use Rattle.scaling.specs.Clear.{is_zero, ClearSum, ClearDifference, ClearProduct, ClearQuotient}
use Rattle.root.specs.Root.{root_of}
use Rattle.rf.specs.Rf.{spread_of}

abbrev pub ClearRoot : Float → Type 0
ClearRoot x = T (finite (root_of x))

pub record ClearSpread (x y z : Float) : Type 0 where
  pub root_x : ClearRoot x
  pub root_y : ClearRoot y
  pub root_z : ClearRoot z
  pub xy : ClearProduct (root_of x) (root_of y)
  pub yz : ClearProduct (root_of y) (root_of z)
  pub zx : ClearProduct (root_of z) (root_of x)
  pub two : ClearSum (root_of x ⊗ root_of y) (root_of y ⊗ root_of z)
  pub three : ClearSum (root_of x ⊗ root_of y ⊕ root_of y ⊗ root_of z) (root_of z ⊗ root_of x)

-- (a + L) / 4
pub record ClearQuarter (a l : Float) : Type 0 where
  pub sum : ClearSum a l
  pub quotient : ClearQuotient (a ⊕ l) 4·0

-- a round as far as all recipes make it alike
pub record ClearQuarters (x y z mean distance : Float) : Type 0 where
  pub spread : ClearSpread x y z
  pub x_next : ClearQuarter x (spread_of x y z)
  pub y_next : ClearQuarter y (spread_of x y z)
  pub z_next : ClearQuarter z (spread_of x y z)
  pub mean_next : ClearQuarter mean (spread_of x y z)
  pub distance_next : ClearQuotient distance 4·0

-- the distances between the mean and the arguments
pub record ClearDistances (mean x y z : Float) : Type 0 where
  pub dx : ClearDifference mean x
  pub dy : ClearDifference mean y
  pub dz : ClearDifference mean z

-- (mean - x) / mean and (mean - y) / mean, whatever their size
pub record ClearOffsets (mean x y : Float) : Type 0 where
  pub dx : ClearDifference mean x
  pub dy : ClearDifference mean y
  pub some : T (not (is_zero mean))

-- `step` holds of each state from which a round is made, and `last` of the one that is closed; n rounds are left, and the Bool is the stop test at s
unfoldable pub ClearRun : {S : Type 0} → (S → Bool) → (S → S) → (S → Type 0) → (S → Type 0) → ℕ → Bool → S → Type 0
ClearRun stops round step last zero b s = last s
ClearRun stops round step last (suc n) true s = last s
ClearRun stops round step last (suc n) false s = step s × ClearRun stops round step last n (stops (round s)) (round s)
