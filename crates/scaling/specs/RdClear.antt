-- Where a run of RD loses no digits to the ends of the range: what each operation must keep, in the order of Rd.antt. Definitions only.
use Rattle.std.specs.Prelude.{T, Float}
use Rattle.std.specs.Float.Ieee.Scale.{finite}
use Rattle.laws.specs.Arithmetic.{◌⊕◌, ◌⊗◌, ◌⊘◌, 3·0, 4·0, 5·0, 1024·0}
use Rattle.scaling.specs.Clear.{ClearSum, ClearProduct, ClearQuotient}
use Rattle.root.specs.Root.{root_of}
use Rattle.scaling.specs.ClearRuns.{ClearRoot, ClearQuarters, ClearDistances, ClearOffsets, ClearRun}
use Rattle.rf.specs.Rf.{spread_of}
use Rattle.rd.specs.declared.State.{State}
use Rattle.rd.specs.Rd.{start_of, stops_of, round_of, series_of}

abbrev pub ClearTest : State → Type 0
ClearTest s = ClearQuotient s.mean 1024·0

pub record ClearStart (x y z : Float) : Type 0 where
  pub finite_x : T (finite x)
  pub finite_y : T (finite y)
  pub finite_z : T (finite z)
  pub two : ClearSum x y
  pub thrice : ClearProduct 3·0 z
  pub five : ClearSum (x ⊕ y) (3·0 ⊗ z)
  pub mean : ClearQuotient (x ⊕ y ⊕ 3·0 ⊗ z) 5·0
  pub distances : ClearDistances (start_of x y z).mean x y z
  pub test : ClearTest (start_of x y z)

-- √z (z + L), which divides the term of a round
abbrev pub weight_of : State → Float
weight_of s = root_of s.z ⊗ (s.z ⊕ spread_of s.x s.y s.z)

-- a round, and the stop test after it
pub record ClearRound (s : State) : Type 0 where
  pub quarters : ClearQuarters s.x s.y s.z s.mean s.distance
  pub scale : ClearQuotient s.scale 4·0
  pub weight : ClearProduct (root_of s.z) (s.z ⊕ spread_of s.x s.y s.z)
  pub term : ClearQuotient s.scale (weight_of s)
  pub sum : ClearSum s.sum (s.scale ⊘ weight_of s)
  pub test : ClearTest (round_of s)

-- the series is the same number for both, so nothing is asked inside it
pub record ClearClosing (s : State) : Type 0 where
  pub offsets : ClearOffsets s.mean s.x s.y
  pub series : T (finite (series_of s))
  pub root : ClearRoot s.mean
  pub share : ClearProduct s.scale (series_of s)
  pub weight : ClearProduct s.mean (root_of s.mean)
  pub term : ClearQuotient (s.scale ⊗ series_of s) (s.mean ⊗ root_of s.mean)
  pub thrice : ClearProduct 3·0 s.sum
  pub value : ClearSum (s.scale ⊗ series_of s ⊘ (s.mean ⊗ root_of s.mean)) (3·0 ⊗ s.sum)
  pub test : ClearTest s

pub record ClearRd (x y z : Float) : Type 0 where
  pub start : ClearStart x y z
  pub run : ClearRun stops_of round_of ClearRound ClearClosing 64 (stops_of (start_of x y z)) (start_of x y z)
